-- What the bench's calls promise: what is done to the engine's buffer, xs at entry and ys at exit, and which lines are printed.
use Rattle.std.specs.Prelude.{◌≡◌, List, ◌++◌, ℕ, ◌≤◌, ◌<◌, length, drop, Result}
use Rattle.refusal.specs.declared.Refusal.{Refusal}
use Rattle.rules.specs.Engine.{Answer}
use Rattle.engine_promises.specs.Promises.{Opens, Answered}
use Rattle.bench_command.specs.declared.Command.{Command}
use Rattle.bench_command.specs.Lines.{command_line, FitsAll, no_line}
use Rattle.bench_answers.specs.Shown.{call_of, lines_of, open_lines}

-- the lines stand at the front of the lent text, nothing else of it is changed, and r is where they end
pub record Written (printed before : List ℕ) (r : ℕ) (after : List ℕ) : Type 0 where
  pub text : after ≡ printed ++ drop (length printed) before
  pub ends : r ≡ length printed

-- a text of 6240 bytes has room for the lines of every answer: 64 entries and their count, of at most 96 bytes each. It gets those that are printed
-- for what is done; with a shorter text nothing is done
pub record InText (done : List ℕ → Type 0) (xs before : List ℕ) (r : ℕ) (ys after : List ℕ) : Type 0 where
  pub short : length before < 6240 → (r ≡ 0) × (ys ≡ xs) × (after ≡ before)
  pub printed : List ℕ
  pub lines : 6240 ≤ length before → done printed
  pub written : 6240 ≤ length before → Written printed before r after

-- ---- open

-- "The bench program keeps arity 16" (document 02, change 9); "w is 64, capacity 64"; "a refused plan or opening prints that and nothing more"
pub record OpensBench (plan xs ys printed : List ℕ) : Type 0 where
  pub answer : Result Unit Refusal
  pub opens : Opens plan 16 64 64 xs answer ys
  pub lines : printed ≡ open_lines answer

-- ---- reply

-- a command is asked of the engine; "a commit's output 1536 bytes"
pub record Obeyed (c : Command) (xs ys printed : List ℕ) : Type 0 where
  pub output : List ℕ
  pub size : length output ≡ 1536
  pub said : Answer
  pub answered : Answered (call_of c output) said xs ys
  pub lines : printed ≡ lines_of said

-- a line is a command's, or is refused with 8 and changes nothing
pub data Replied (line xs : List ℕ) : List ℕ → List ℕ → Type 0 where
  obeyed : {ys printed : List ℕ} (c : Command) → FitsAll c → line ≡ command_line c → Obeyed c xs ys printed → Replied line xs ys printed
  unread : ((c : Command) → FitsAll c → line ≡ command_line c → ⊥) → Replied line xs xs (no_line 8)
