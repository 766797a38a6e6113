-- The calls and the run to the time are one list, of which the engine's theorem says what each record is.
use mathlib.Core.Path.{◌≡◌, refl, sym, ◌∙◌, subst}
use mathlib.Core.List.{List, ◌++◌}
use Prim.Native.Nat.{ℕ}
use Rattle.std.specs.Prelude.{Ok}
use Rattle.line.specs.declared.Event.{Event}
use Rattle.rules.specs.Machine.{start, Runs}
use Rattle.rules.specs.Demand.{Made, fed, last_commit}
use Rattle.plan_format.specs.Line.{line_of}
use Rattle.engine.proofs.Session.{whole}
use Rattle.engine_until.proofs.Joins.{last_join}
use Rattle.figure.specs.Figure.{Figure}
use Rattle.figure.proofs.Fed.{works_chain, chain_join, works_feed_nothing}

pub figure : Figure
figure plan arity width capacity time turns before xs ys zs os ps ms o c r =
    let line = line_of plan in
    let calls : List Made = ms ++ r.calls in
    let w = (whole plan arity width capacity before (Ok tt) xs o).whole refl zs calls (chain_join c (works_chain r.works)) in
    let k = w.demand.machine in
    let t : last_commit 0 calls ≡ time = last_join 0 ms r.calls ∙ r.done refl (last_commit 0 ms) in
    let f : fed (line_of plan) calls ≡ fed (line_of plan) ms = works_feed_nothing (line_of plan) ms r.calls r.works in
    record {
      machine = k;
      runs = subst (λ (e : List Event). Runs line time (start line e) k) f (subst (λ (u : ℕ). Runs line u (start line (fed line calls)) k) t w.demand.comes);
      one = λ m r. w.one_machine m (subst (λ (u : ℕ). Runs line u (start line (fed line calls)) m) (sym t) (subst (λ (e : List Event). Runs line time (start line e) m) (sym f) r));
      records = w.records_then;
    }
