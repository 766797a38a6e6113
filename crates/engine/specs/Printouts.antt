-- Two printouts of one plan are the same, whatever the two buffers held before (document 02, change 3); where the arities or the leaf widths differ, all but
-- the counts of bitmap words read (changes 5 and 9).
use Rattle.std.specs.Prelude.{List, ℕ, Ok}
use Rattle.rules.specs.Engine.{Setting, chosen}
use Rattle.rules.specs.Demand.{Made}
use Rattle.rules.specs.Alike.{Alike, AlikeButCounts}
use Rattle.engine_promises.specs.Promises.{Opens}
use Rattle.engine.specs.Session.{Chain}

-- the plan is opened with the setting, in a buffer that held anything, and the calls ms are made then
pub record Printout (plan : List ℕ) (setting : Setting) (ms : List Made) : Type 0 where
  pub before : List ℕ
  pub opened : List ℕ
  pub left : List ℕ
  pub opening : Opens plan setting.arity setting.width setting.capacity before (Ok tt) opened
  pub calls : Chain opened ms left

pub record Printouts : Type 0 where
  pub same : (plan : List ℕ) (setting : Setting) (ms ns : List Made) → Printout plan setting ms → Printout plan setting ns → Alike ms ns
  pub other_shapes : (plan : List ℕ) (a v b w capacity : ℕ) (ms ns : List Made)
      → Printout plan (chosen a v capacity) ms → Printout plan (chosen b w capacity) ns → AlikeButCounts ms ns
