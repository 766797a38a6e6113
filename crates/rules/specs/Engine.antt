-- The engine's state, its calls and their answers (document 01, "Engine calls").
use Rattle.std.specs.Prelude.{ℕ, List, []}
use Rattle.line.specs.declared.State.{State}
use Rattle.line.specs.Station.{Plan, initial}
use Rattle.rules.specs.Held.{Queue}

-- what the opening chose: the calendar's shape by its arity (document 02, change 9), the leaf width and the capacity
pub record Setting : Type 0 where
  pub arity : ℕ
  pub width : ℕ
  pub capacity : ℕ

abbrev pub chosen : ℕ → ℕ → ℕ → Setting
chosen arity width capacity = record { arity = arity; width = width; capacity = capacity }

-- "The engine holds events .., and a commit time", what its opening chose, and the number of the next post
pub record Engine : Type 0 where
  pub setting : Setting
  pub next : ℕ
  pub now : ℕ
  pub queue : Queue

-- the engine that an accepted opening leaves
unfoldable pub opened : Plan → Setting → Engine
opened p setting = record { setting = setting; next = 0; now = 0; queue = record { states = initial p; held = [] } }

-- the calls after the opening; a commit has its output as it is lent
pub data Call : Type 0 where
  Post : ℕ → ℕ → ℕ → ℕ → Call
  Retract : ℕ → Call
  RunStation : ℕ → Call
  RunLowest : Call
  Commit : ℕ → List ℕ → Call
  Record : ℕ → Call

-- a refusal's number; a post's number and undone; a retract's undone; a run station's station and undone; a run lowest's, with how many bitmap words were
-- read; a commit's count, with its output as the call left it; a record's state
pub data Answer : Type 0 where
  Refused : ℕ → Answer
  Posted : ℕ → ℕ → Answer
  Retracted : ℕ → Answer
  Ran : ℕ → ℕ → Answer
  RanLowest : ℕ → ℕ → ℕ → Answer
  Committed : ℕ → List ℕ → Answer
  Recorded : State → Answer
