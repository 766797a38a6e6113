-- The posts of a star line (document 02, change 14).
use Rattle.std.specs.Prelude.{ℕ, suc, ◌<◌, ◌≡◌, ◌≢◌, cond, List, [], ◌∷◌, ltb, eqb}
use Rattle.line.specs.declared.Event.{Event}
use Rattle.line.specs.declared.Matter.TheVariants.{Read}
use Rattle.line.specs.Order.{All}
use Rattle.line.specs.Station.{Plan}

-- how many of the events are the station's
unfoldable pub count_at : ℕ → List Event → ℕ
count_at s [] = 0
count_at s (x ∷ xs) = cond (eqb x.target s) (suc (count_at s xs)) (count_at s xs)

-- "no level is posted"; "Exactly one reading per station other than 0 is posted and not retracted, at time 0, and no frame is posted." A reading of
-- station 0 does nothing, so it may be posted at any time
pub record StarPosts (p : Plan) (posts : List Event) : Type 0 where
  pub readings : All (λ x. x.matter ≡ Read) posts
  pub at_start : All (λ x. x.target ≢ 0 → x.time ≡ 0) posts
  pub once : (s : ℕ) → s ≢ 0 → s < p.count → count_at s posts ≡ 1

-- the events before c
unfoldable pub earlier : ℕ → List Event → List Event
earlier c [] = []
earlier c (x ∷ xs) = cond (ltb x.time c) (x ∷ earlier c xs) (earlier c xs)
