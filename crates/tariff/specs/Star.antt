-- The plan of a star line (document 02, change 14).
use Rattle.std.specs.Prelude.{ℕ, zero, suc, Bool, true, ◌&&◌, eqb}
use Rattle.line.specs.declared.Config.{Config}
use Rattle.line.specs.Station.{Plan}

-- "every station's parent is station 0, all noise limits are 0"; "Calm and spring period are equal at every station."
unfoldable pub star_at : Config → Bool
star_at g = eqb g.parent 0 && (eqb g.noise 0 && eqb g.calm g.spring)

-- at every station below n
unfoldable pub star_below : ℕ → (ℕ → Config) → Bool
star_below zero config = true
star_below (suc n) config = star_below n config && star_at (config n)

unfoldable pub is_star : Plan → Bool
is_star p = star_below p.count p.config
