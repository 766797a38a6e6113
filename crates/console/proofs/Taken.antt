-- What is taken of the input after one read more, into the buffer behind the bytes that are there.
use Rattle.std.proofs.Common.{◌≡◌, ◌≤◌, ◌+◌, ℕ, List, ◌++◌, length, take, sym, ap, ◌∙◌, subst, refl}
use Rattle.std.specs.declared.option.Option.{Option}
use borrow.Rule.Slice.PartMut.{put_mid}
use native.Mathlib.Omega.{arith}
use Rattle.std.proofs.lemmas.List.{take-take, length-take-le}
use Rattle.std.proofs.lemmas.Slice.{take-put_mid}
use Rattle.std.proofs.Math.Seq.{take-append-add}
use Rattle.std.specs.Io.KnownBytes.{Consumes}
use Rattle.std.proofs.KnownBytes.{Consumes-trans}

module _ (xs ys : List ℕ) (k : ℕ) {d n e : ℕ} (on : e ≡ d + n) (there : d ≤ length xs) (fits : n ≤ length ys) where
  front : take e (put_mid d k xs ys) ≡ take d xs ++ take n ys
  front =
      sym (take-take e (d + length ys) (put_mid d k xs ys) (omega (arith, on, fits)))
      ∙ ap (take e) (take-put_mid d k xs ys (d + length ys) refl there)
      ∙ ap (λ m. take m (take d xs ++ ys)) (on ∙ ap (λ m. m + n) (sym (length-take-le d xs there)))
      ∙ take-append-add (take d xs) ys n

  pub one_read : (a b c : Option (List ℕ)) → Consumes a b (take d xs) → Consumes b c (take n ys) → Consumes a c (take e (put_mid d k xs ys))
  one_read a b c p q = subst (Consumes a c) (sym front) (Consumes-trans a b c (take d xs) (take n ys) p q)
