-- Quotient and remainder are held as they are, and the products are below 2 ^ 31: nothing leaves signed 32 bits, and what is answered is the difference.
use native.Mathlib.Omega.{arith}
use Prim.Native.Nat.{◌/◌, ◌%◌}
use Rattle.generator.specs.Schrage.{difference_of}
use Rattle.generator.proofs.Signed.{less_products_held}
use Rattle.generator.proofs.difference.Goals as goal

pub returns : goal.returns
unfolding difference_of
returns c =
    less_products_held 16807 (c.args.seed % 127773) (record { sfits = omega arith }) (omega arith)
    2836 (c.args.seed / 127773) (record { sfits = omega arith }) (omega arith)
