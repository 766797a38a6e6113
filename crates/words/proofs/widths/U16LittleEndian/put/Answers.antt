-- Two bytes are the number of 16 bits that the definition says.
use Prim.Native.Nat.{◌/◌, ◌%◌}
use native.Mathlib.Omega.{arith}
use Rattle.words.proofs.Halves.{put_joined, put_byte}
use Rattle.words.proofs.widths.U16LittleEndian.put.Goals as goal

pub returns : goal.returns
returns c =
    put_joined 1 1 _ c.args.self _ (put_byte _ (c.args.self % 256) _ (omega arith)) (put_byte _ (c.args.self / 256) _ (omega arith))
