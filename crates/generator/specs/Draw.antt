-- Park and Miller's "minimal standard" generator (document 01, "Events and stations"): new draw = 16807·draw mod 2147483647.
use Rattle.std.specs.Prelude.{ℕ, ◌*◌, ◌%◌}

-- the draw that follows the draw d
unfoldable pub next_draw : ℕ → ℕ
next_draw d = 16807 * d % 2147483647
