-- What is read of the held events; and what a change leaves.
use Rattle.std.specs.Prelude.{◌≡◌, true, false, List, ℕ, ◌<◌, length, Result, Err, IfOk, IfErr, OnErr}
use Rattle.refusal.specs.declared.Refusal.{Refusal}
use Rattle.refusal.specs.declared.Refusal.TheVariants.{Idle}
use Rattle.calendar_ring.specs.WordsRead.{words_read}
use Rattle.calendar_answers.specs.declared.Least.{Least}
use Rattle.line.specs.Station.{Plan}
use Rattle.rules.specs.Held.{Queue, none_unrun, registered_from, Lowest}
use Rattle.rules.specs.Engine.{Setting}
use Rattle.rings.specs.Table.{Frame}
use Rattle.engine_index.specs.Represents.{Cell}
use Rattle.engine_events.specs.Represents.{fits_in, Holds}

-- at most bytes after the header are changed
abbrev pub AfterHeader : List ℕ → List ℕ → Type 0
AfterHeader xs ys = Frame 64 (length xs) xs ys

-- the lowest-numbered station of least time, with it, and how many bitmap words the calendar reads; 14 where no event is unrun, and where the numbers are
-- out of range or the buffer is too short
pub record Finds (n c : ℕ) (xs : List ℕ) (r : Result Least Refusal) : Type 0 where
  pub unfit : fits_in n c (length xs) ≡ false → r ≡ Err Idle
  -- its refusal is 14, on any bytes
  pub idle : IfErr r (λ e. e ≡ Idle)
  pub none : (p : Plan) (setting : Setting) (now : ℕ) (q : Queue) (cells : List Cell) → Holds p setting n c now xs q cells
      → OnErr r (none_unrun q.held ≡ true)
  pub some : (p : Plan) (setting : Setting) (now : ℕ) (q : Queue) (cells : List Cell) → Holds p setting n c now xs q cells
      → IfOk r (λ a. (none_unrun q.held ≡ false) × (a.station < n) × (l : Lowest q.held a.station) × (l.time ≡ a.time)
      × (a.words ≡ words_read setting.arity setting.width now (registered_from q.held 0 n)))
