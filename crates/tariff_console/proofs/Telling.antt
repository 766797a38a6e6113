-- What is told of a line: by its number where it is one, and of a line that is too long for one.
use mathlib.Core.Path.{◌≡◌, refl, sym, ap, ◌∙◌}
use mathlib.Core.List.{List, [], ◌++◌}
use Prim.Native.Nat.{ℕ, ◌≤◌}
use native.Mathlib.Omega.{arith}
use lib.ListN.{length, length-append}
use Rattle.std.specs.Prelude.{Option, Some, None}
use Rattle.text.specs.Decimal.{decimal}
use Rattle.text.proofs.Places.{at_most_20}
use Rattle.text_reading.specs.declared.Number.{Number}
use Rattle.text_reading.specs.Promises.{Lasts}
use Rattle.text_reading.proofs.Inverse.{one_decimal}
use Rattle.tariff.specs.Tariff.{tariff_of}
use Rattle.tariff_console.specs.Promises.{TellsTariff}

module _ (plan line : List ℕ) {n : Option Number} (l : Lasts [] line 0 n) where
  pub no_number : n ≡ None → TellsTariff plan line None
  no_number e = record { number = λ c f q. absurd (l.absent e c f q); other = λ h. refl }

  pub a_number : (m : Number) → n ≡ Some m → {r : Option ℕ} → r ≡ tariff_of plan m.value → TellsTariff plan line r
  a_number m e h =
      let a = l.found m e in
      record {
        number = λ d f q. h ∙ ap (tariff_of plan) (one_decimal m.value d a.0 f (sym a.1 ∙ q));
        other = λ none. absurd (none m.value a.0 a.1);
      }

-- a line of 21 bytes or more is no number, so what is told of its front is told of the line
pub front_tells : (plan front rest : List ℕ) {r : Option ℕ} → 21 ≤ length front → TellsTariff plan front r → TellsTariff plan (front ++ rest) r
front_tells plan front rest {r} h t = record { number = λ c f e. absurd (too_long c e); other = λ _. t.other (λ c f e. short c e) }
  where
    short : (c : ℕ) → front ≡ decimal c → ⊥
    short c e = omega (arith, h, ap length e, at_most_20 c)

    too_long : (c : ℕ) → front ++ rest ≡ decimal c → ⊥
    too_long c e = omega (arith, h, length-append front rest, ap length e, at_most_20 c)
