-- On a star, heard in the collector's record is the tariff, and the tariff's call answers it: for every list of calls on one buffer.
use mathlib.Core.Path.{◌≡◌, refl, ap, ◌∙◌, subst}
use mathlib.Core.List.{List, ◌∷◌, ◌++◌}
use Prim.Native.Nat.{◌+◌, ◌≤◌, ◌<◌}
use native.Mathlib.Omega.{arith}
use Rattle.refusal.specs.Tests.{horizon}
use Rattle.line.specs.declared.State.{State}
use Rattle.line.specs.Order.{All}
use Rattle.line.specs.Station.{Plan, InRange}
use Rattle.rules.specs.Engine.{Setting, chosen, Engine, opened, Record, Recorded}
use Rattle.rules.specs.Demand.{Made, Calls, posts, retracted, fed, last_commit, logs}
use Rattle.rules.proofs.Calls.Demand3.{after_calls}
use Rattle.rules.proofs.Calls.Invariant.{fed_inside}
use Rattle.plan_format.specs.Line.{line_of}
use Rattle.engine.specs.Session.{made}
use Rattle.engine.proofs.Session.{whole}
use Rattle.tariff.specs.Tariff.{tariff}
use Rattle.tariff_records.specs.StarPosts.{StarPosts}
use Rattle.tariff_records.specs.StarHeard.{StarClaim, StarListClaim}
use Rattle.tariff_records.proofs.Earlier.{star_earlier}
use Rattle.tariff_records.proofs.MachineTariff.{machine_tariff}
use Rattle.tariff_records.proofs.FirstCalls.{first_calls, commit_in_time}
use Rattle.tariff_records.proofs.LaterCalls.{first_posts}
use Rattle.tariff_records.proofs.OpenedStar.{star_answered}

-- every post that stands is a station's
posts_inside : (p : Plan) → InRange p → (setting : Setting) {bs : List Made} {g : Engine} → Calls p (opened p setting) bs g
    → All (λ x. x.target < p.count) (fed p bs)
unfolding fed
posts_inside p S setting {bs} {g} c = fed_inside p S g (posts p 0 bs) (retracted bs) (logs bs) (after_calls p S setting c).0

pub star_heard : StarClaim
star_heard plan arity width capacity before xs ys bs cs st o c star h =
    let setting = chosen arity width capacity in
    let p = line_of plan in
    let S : InRange (line_of plan) = (o.opens refl).range in
    let w = (whole plan arity width capacity before _ xs o).whole refl ys _ c in
    let b = first_calls bs (made (Record 0) (Recorded st) ∷ cs) w.calls in
    let k = w.demand.records_are bs 0 st cs refl in
    let in_time : last_commit 0 bs ≤ horizon + 1 = commit_in_time 0 b.1 (omega arith) in
    let machine-is = machine_tariff p (last_commit 0 bs) (fed p bs) (posts_inside p S setting b.1) h S star in_time k.0 k.1 in
    let is_sum : st.heard ≡ tariff (line_of plan) (last_commit 0 bs) = ap (λ (v : State). v.heard) k.2 ∙ machine-is in
    record { is_sum = is_sum; answered = star_answered o star (last_commit 0 bs) st.heard in_time is_sum }

pub star_heard_list : StarListClaim
star_heard_list plan arity width capacity before xs ys bs cs st o c star h =
    let p = line_of plan in
    let ms = made (Record 0) (Recorded st) ∷ cs in
    let w = (whole plan arity width capacity before _ xs o).whole refl ys _ c in
    let e = first_posts p (o.opens refl).range (chosen arity width capacity) bs ms w.calls in
    star_heard plan arity width capacity before xs ys bs cs st o c star
    (λ l. subst (StarPosts p) e (star_earlier (last_commit 0 bs) p (fed p (bs ++ ms)) l h))
