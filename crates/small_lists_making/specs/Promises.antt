-- What making a call by its number promises: what is done to the engine's buffer, xs at entry, and which lines are printed.
use Rattle.std.specs.Prelude.{ℕ, ◌≤◌, ◌≡◌, List, [], length}
use Rattle.rules.specs.Engine.{Call, Answer}
use Rattle.engine_promises.specs.Promises.{Answered}
use Rattle.bench_answers.specs.Shown.{lines_of}
use Rattle.small_lists.specs.Calls.{StandsFor}

-- the call that the number stands for is asked of the engine, with the bench's output of 1536 bytes for a commit; 7 and more stand for none
pub data MakesCall (number : ℕ) (xs : List ℕ) : List ℕ → List ℕ → Type 0 where
  call_made : {ys printed : List ℕ} (output : List ℕ) {call : Call} {said : Answer} → length output ≡ 1536 → StandsFor output number call → Answered call said xs ys
      → printed ≡ lines_of said → MakesCall number xs ys printed
  no_call : 7 ≤ number → MakesCall number xs xs []
