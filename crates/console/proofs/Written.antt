-- What is written after one write more, and after one that took nothing.
use Rattle.std.proofs.Common.{◌≡◌, ◌≤◌, ◌+◌, ◌-◌, ℕ, List, ◌++◌, length, take, drop, sym, ap, ◌∙◌, subst}
use Rattle.std.specs.declared.option.Option.{Option}
use native.Mathlib.Omega.{arith}
use Rattle.std.proofs.lemmas.List.{take-take, length-take}
use Rattle.std.proofs.Math.Seq.{take-add}
use Rattle.std.specs.Io.KnownBytes.{Appends, Keeps}
use Rattle.std.proofs.KnownBytes.{Appends-trans, Appends-kept}

module _ (text : List ℕ) {d n k e : ℕ} (on : e ≡ d + k) (le : d ≤ n) (took : k ≤ length (take (n - d) (drop d text))) where
  within : k ≤ n - d
  within = omega (arith, took, length-take (n - d) (drop d text))

  pub count_fits : e ≤ n
  count_fits = omega (arith, on, le, within)

  pub one_write : (a b c : Option (List ℕ)) → Appends a b (take d text) → Appends b c (take k (take (n - d) (drop d text))) → Appends a c (take e text)
  one_write a b c p q =
      let front : take k (take (n - d) (drop d text)) ≡ take k (drop d text) = take-take k (n - d) (drop d text) within in
      subst (Appends a c) (ap (λ l. take d text ++ l) front ∙ sym (take-add d k text) ∙ sym (ap (λ m. take m text) on)) (Appends-trans a b c _ _ p q)

pub no_write : (text : List ℕ) {d e : ℕ} → e ≡ d → (a b c : Option (List ℕ)) → Appends a b (take d text) → Keeps b c → Appends a c (take e text)
no_write text on a b c p q = subst (λ (i : ℕ). Appends a c (take i text)) (sym on) (Appends-kept a b c _ p q)
