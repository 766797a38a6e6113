-- A part that 19 does not refuse has whole entries, and 19 refuses none of them.
use mathlib.Core.Path.{◌≡◌}
use mathlib.Core.Bool.{false, not}
use mathlib.Core.List.{List}
use Prim.Native.Nat.{ℕ, ◌%◌}
use borrow.Author.Tests.{eqb-true, not-false}
use lib.Dec.{eqb}
use lib.ListN.{length}
use Rattle.line.proofs.Fits.{or_false}
use Rattle.account_parts.specs.Part.{entries_of, any_entry_out, part_out}

pub part_whole : (n : ℕ) (xs : List ℕ) → part_out n xs ≡ false → (length xs % 24 ≡ 0) × (any_entry_out n (entries_of xs) ≡ false)
unfolding part_out
part_whole n xs h =
    let a = or_false (not (eqb (length xs % 24) 0)) _ h in
    (eqb-true (length xs % 24) 0 (not-false _ a.0), a.1)
