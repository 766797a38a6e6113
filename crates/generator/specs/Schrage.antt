-- Schrage's decomposition as Park and Miller print it (document 02, "Change 4. Draws by Schrage's cases"): 2147483647 = 16807·127773 + 2836.
use Rattle.std.specs.Prelude.{ℕ, ◌*◌, ◌/◌, ◌%◌, ◌≤◌, ◌≡◌, ◌≢◌, cond, ℤ, pos, ◌+ℤ◌, ◌-ℤ◌}
use Rattle.std.specs.Int.Signed.{lt_z}
use Rattle.std.specs.Int.{w32}
use Rattle.std.proofs.Common.{SFits}
use Rattle.generator.specs.Draw.{next_draw}

-- "quotient 127773, remainder 2836": the two products of a draw
abbrev pub low_product : ℕ → ℕ
low_product d = 16807 * (d % 127773)

abbrev pub high_product : ℕ → ℕ
high_product d = 2836 * (d / 127773)

-- their difference, which has a sign
unfoldable pub difference_of : ℕ → ℤ
difference_of d = pos (low_product d) -ℤ pos (high_product d)

-- "one case where the difference is positive, one where 2147483647 is added"
unfoldable pub by_cases : ℤ → ℤ
by_cases z = cond (lt_z (pos 0) z) z (z +ℤ pos 2147483647)

-- "a draw of 1 to 2147483646"
abbrev pub IsDraw : ℕ → Type 0
IsDraw d = (1 ≤ d) × (d ≤ 2147483646)

-- what is claimed of such a draw
pub record Schrage (d : ℕ) : Type 0 where
  -- "no product or difference leaves signed 32 bits": each is from -2147483648 to 2147483647
  pub low_signed : SFits w32 (pos (low_product d))
  pub high_signed : SFits w32 (pos (high_product d))
  pub difference_signed : SFits w32 (difference_of d)
  -- it is above 0 or below
  pub never_0 : difference_of d ≢ pos 0
  -- "and the draw that comes out stays the one defined": again one of 1 to 2147483646
  pub same : by_cases (difference_of d) ≡ pos (next_draw d)
  pub again : IsDraw (next_draw d)
