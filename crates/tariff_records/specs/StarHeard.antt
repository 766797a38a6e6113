-- The tariff and the calls: on a star line the heard in the collector's record is the sum, for a list of calls on one buffer, each known by its promise
-- alone (document 02, change 14: "The formula is shown to be the heard in the committed record.").
use Rattle.std.specs.Prelude.{ℕ, ◌<◌, ◌≡◌, true, List, ◌∷◌, ◌++◌, Some, Ok}
use Rattle.line.specs.declared.State.{State}
use Rattle.line.specs.Station.{Plan}
use Rattle.rules.specs.Engine.{Record, Recorded}
use Rattle.rules.specs.Demand.{Made, fed, last_commit}
use Rattle.plan_format.specs.Line.{line_of}
use Rattle.engine_promises.specs.Promises.{Opens}
use Rattle.engine.specs.Session.{made, Chain}
use Rattle.tariff.specs.Star.{is_star}
use Rattle.tariff.specs.Tariff.{tariff, tariff_of}
use Rattle.tariff_records.specs.StarPosts.{StarPosts, earlier}

-- "For an accepted commit at c, the collector's heard is the sum": st is the record of station 0 at the commit time c. The tariff's call answers yes with
-- the same number
pub record StarHeard (plan : List ℕ) (c : ℕ) (st : State) : Type 0 where
  pub is_sum : st.heard ≡ tariff (line_of plan) c
  pub answered : tariff_of plan c ≡ Some st.heard

-- the calls ms, of which the first are bs and the next is a record of station 0, come after an accepted opening of a star's plan. Where `condition` holds
-- of the line, of bs and of ms, the record is as above at the commit time then
abbrev pub StarClaims : (Plan → List Made → List Made → Type 0) → Type 0
StarClaims condition =
    (plan : List ℕ) (arity width capacity : ℕ) (before xs ys : List ℕ) (bs cs : List Made) (st : State)
    → Opens plan arity width capacity before (Ok tt) xs
    → Chain xs (bs ++ (made (Record 0) (Recorded st) ∷ cs)) ys
    → is_star (line_of plan) ≡ true
    → condition (line_of plan) bs (bs ++ (made (Record 0) (Recorded st) ∷ cs))
    → StarHeard plan (last_commit 0 bs) st

-- asked of the posts before the commit time alone, since no commit sees the others: those of the calls bs that stand. Up to time 0 nothing is heard
abbrev pub StarBefore : Plan → List Made → List Made → Type 0
StarBefore p bs ms = 0 < last_commit 0 bs → StarPosts p (earlier (last_commit 0 bs) (fed p bs))

abbrev pub StarClaim : Type 0
StarClaim = StarClaims StarBefore

-- asked of the whole list, calls after the record among them: every post that is not retracted
abbrev pub StarList : Plan → List Made → List Made → Type 0
StarList p bs ms = StarPosts p (fed p ms)

abbrev pub StarListClaim : Type 0
StarListClaim = StarClaims StarList
