-- Both lists are lists of calls by the rules, whose answers are a matter of the plan, what the opening chose and the calls.
use mathlib.Core.Path.{refl}
use mathlib.Core.List.{List}
use Prim.Native.Nat.{ℕ}
use Rattle.std.specs.Prelude.{Ok}
use Rattle.rules.specs.Engine.{Setting}
use Rattle.rules.specs.Demand.{Made}
use Rattle.rules.proofs.Calls.Alike.{alike}
use Rattle.rules.proofs.Calls.ButCounts.{alike_but_counts}
use Rattle.plan_format.specs.Line.{line_of}
use Rattle.engine.specs.Session.{Whole}
use Rattle.engine.specs.Printouts.{Printout, Printouts}
use Rattle.engine.proofs.Session.{whole}

pub listed : {plan : List ℕ} {setting : Setting} {ms : List Made} (o : Printout plan setting ms) → Whole plan setting ms o.left
listed {plan} {setting} {ms} o =
    (whole plan setting.arity setting.width setting.capacity o.before (Ok tt) o.opened o.opening).whole refl o.left ms o.calls

pub same_printouts : Printouts
same_printouts = record {
  same = λ plan setting ms ns o k. let w = listed o in alike (line_of plan) w.stands.range setting w.calls (listed k).calls;
  other_shapes = λ plan a v b w capacity ms ns o k.
      let l = listed o in
      alike_but_counts (line_of plan) l.stands.range a v b w capacity l.calls (listed k).calls;
}
