-- In each case what is answered is the defined draw, so the sum and the casts fit.
use mathlib.Core.Path.{◌≡◌, ◌∙◌}
use lib.IntN.{pos, ◌+ℤ◌}
use mir.Syntax.{w32}
use mir.Val.{to_z, of_z}
use mir.Facts.{to_z-of_z}
use Rattle.generator.specs.Draw.{next_draw}
use Rattle.generator.proofs.Signed.{number_fits, number_casts}
use Rattle.generator.proofs.Schrage.{draw_small, answered, taken, added}
use Rattle.generator.proofs.by_cases.Goals as goal
use Rattle.generator.proofs.by_cases.Goals.{Then-test-gt0, Else-test-gt0}

-- the difference as it is held, where it is positive
positive : (c : Then-test-gt0) → to_z w32 (of_z w32 c.difference-test.result) ≡ pos (next_draw c.args.seed)
positive c =
    let d = c.difference-test in
    taken c.args.seed c.requires d.result d.ensures (record { sfits = d.type_inv }) c.if-test-gt0.true

-- and the sum where it is not
negative : (c : Else-test-gt0) → to_z w32 (of_z w32 c.difference-test.result) +ℤ pos 2147483647 ≡ pos (next_draw c.args.seed)
negative c =
    let d = c.difference-test in
    added c.args.seed c.requires d.result d.ensures (record { sfits = d.type_inv }) c.if-test-gt0.false

summed : (c : Else-test-gt0) → to_z w32 (of_z w32 (to_z w32 (of_z w32 c.difference-test.result) +ℤ pos 2147483647)) ≡ pos (next_draw c.args.seed)
summed c = to_z-of_z (number_fits (negative c) (draw_small c.args.seed c.requires)) ∙ negative c

pub overflow_cast-result-else-test-gt0 : goal.overflow_cast-result-else-test-gt0
overflow_cast-result-else-test-gt0 c = number_casts (summed c) (draw_small c.args.seed c.requires)

pub returns-then-test-gt0 : goal.returns-then-test-gt0
returns-then-test-gt0 c = let a = answered c.args.seed c.requires (positive c) in record { cases = a.0; same = a.1 }

pub returns-else-test-gt0 : goal.returns-else-test-gt0
returns-else-test-gt0 c = let a = answered c.args.seed c.requires (summed c) in record { cases = a.0; same = a.1 }
