-- A power of two is one bit.
use mathlib.Core.Path.{◌∙◌}
use Prim.Native.Nat.{◌-◌, ◌^◌}
use native.Mathlib.Nat.{one-mul}
use native.Mathlib.Omega.{arith}
use lib.Dec.{lit<}
use lib.Pow.{shl_exact}
use Rattle.calendar_bitmap.proofs.child_word.Goals as goal

pub returns : goal.returns
returns c = shl_exact 1 (c.args.arity - 1 - c.args.i) 64 (lit< tt) (omega arith) ∙ one-mul (2 ^ (c.args.arity - 1 - c.args.i))
