-- What the library says of `starts_with`, as a promise.
use mathlib.Core.Path.{◌≡◌, sym, ◌∙◌}
use mathlib.Core.Bool.{Bool, true, false}
use mathlib.Core.List.{List}
use Prim.Native.Nat.{ℕ}
use lib.ListN.{length, take}
use lib.Dec.{eqb}
use Rattle.std.specs.Cmp.Lexicographic.{pointwise}
use Rattle.std.proofs.lemmas.Bool.Decides.{Decides-eqb}
use Rattle.std.proofs.lemmas.Slice.Eq.{starts_is}
use Rattle.text_reading.specs.Promises.{Begins}

pub begins_is : (word xs : List ℕ) (r : Bool) → r ≡ pointwise eqb word (take (length word) xs) → Begins word xs r
begins_is word xs r e =
    let s = starts_is Decides-eqb xs word r e in
    record { begun = s.0; other = λ q rest t. let both : true ≡ false = sym (s.1 rest t) ∙ q in cc }
