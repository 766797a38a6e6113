-- A line ends where the first byte 10 stands.
use Rattle.std.proofs.Common.{◌≡◌, ap, ◌∙◌, sym, ℕ, List, ◌+◌, ◌-◌, ◌≤◌, ◌<◌, length, drop, get_or, length-drop, arith}
use lib.Seq.{get_or-drop}
use lib.Dec.{eqb}
use mathlib.Core.Bool.{not}
use borrow.Author.Tests.{eqb-true, eqb-false}
use Rattle.std.specs.List.{position_or_len}
use Rattle.std.proofs.lemmas.List.Sums.{fails_before_first, passes_at_first, prefix_len-le-length}
use Rattle.scenario_posting.specs.Steps.{EndsLine}

pub ends : (text : List ℕ) (from n : ℕ) → from ≤ length text → n ≡ position_or_len (λ b. eqb b 10) (drop from text) → EndsLine text from (from + n)
ends text from n l e = record { after = omega arith; within = within; unended = before; ended = here }
  where
    size : length (drop from text) ≡ length text - from
    size = length-drop from text

    within : from + n ≤ length text
    within = let most = prefix_len-le-length (λ b. not (eqb b 10)) (drop from text) in omega (arith, e, most, size, l)

    before : (i : ℕ) → from ≤ i → i < from + n → get_or text i 0 ≡ 10 → ⊥
    before i f h q =
        let at : get_or (drop from text) (i - from) 0 ≡ get_or text i 0 =
        get_or-drop from text (i - from) 0 ∙ ap (λ (k : ℕ). get_or text k 0) (let z : from + (i - from) ≡ i = omega (arith, f) in z) in
        eqb-false (get_or (drop from text) (i - from) 0) 10 (fails_before_first (λ b. eqb b 10) (drop from text) (i - from) 0 (omega (arith, e, h, f))) (at ∙ q)

    here : from + n < length text → get_or text (from + n) 0 ≡ 10
    here h =
        let p = position_or_len (λ b. eqb b 10) (drop from text) in
        sym (get_or-drop from text n 0) ∙ ap (λ (k : ℕ). get_or (drop from text) k 0) e
        ∙ eqb-true (get_or (drop from text) p 0) 10 (passes_at_first (λ b. eqb b 10) (drop from text) 0 (omega (arith, e, h, size)))
