-- A text says one list of orders at most.
use mathlib.Core.Path.{◌≡◌, refl, sym, ap, ◌∙◌}
use mathlib.Core.Logic.{⊎_elim}
use mathlib.Core.List.{List, [], ◌∷◌, ◌++◌, append_assoc}
use Prim.Native.Nat.{ℕ}
use native.Mathlib.Omega.{arith}
use lib.ListN.{length, get_or, drop, length-append}
use Rattle.line.specs.Order.{All}
use Rattle.text.proofs.Bytes.{Printed}
use Rattle.scenario.specs.declared.Order.{Order}
use Rattle.scenario.specs.declared.Order.TheVariants.{Days, Read, Level}
use Rattle.scenario.specs.Orders.{order_line}
use Rattle.scenario.specs.Scenario.{order_lines, AllFit, Says}
use Rattle.scenario.proofs.Forms.{first, first_of, one_order}
use Rattle.scenario.proofs.Lines.{order_printed}

-- the line before the first byte 10 is one, and so is what stands after it
pub line_split : (a b x y : List ℕ) → All Printed a → All Printed b → a ++ (10 ∷ x) ≡ b ++ (10 ∷ y) → (a ≡ b) × (x ≡ y)
line_split [] [] x y f g e = (refl, ap (drop 1) e)
line_split [] (b ∷ bs) x y f g e = let z : 10 ≡ b = ap (λ (l : List ℕ). get_or l 0 0) e in let h = g.0 in absurd (omega arith)
line_split (a ∷ l) [] x y f g e = let z : a ≡ 10 = ap (λ (l : List ℕ). get_or l 0 0) e in let h = f.0 in absurd (omega arith)
line_split (a ∷ l) (b ∷ bs) x y f g e =
    let z : a ≡ b = ap (λ (l : List ℕ). get_or l 0 0) e in
    let h = line_split l bs x y f.1 g.1 (ap (drop 1) e) in
    (ap (λ (n : ℕ). n ∷ l) z ∙ ap (λ (m : List ℕ). b ∷ m) h.0, h.1)

no_line : (o : Order) → [] ≡ order_line o → ⊥
no_line o e = go o (ap (λ (l : List ℕ). get_or l 0 0) e ∙ first o)
  where
    go : (o : Order) → 0 ≡ first_of o → ⊥
    go (Days d) z = omega arith
    go (Read s t) z = omega arith
    go (Level s t m) z = omega arith

-- lines are those of one list
pub one_list : (os ps : List Order) → AllFit os → AllFit ps → order_lines os ≡ order_lines ps → os ≡ ps
unfolding order_lines
one_list [] [] f g e = refl
one_list [] (p ∷ ps) f g e = absurd (omega (arith, ap length e, length-append (order_line p) (10 ∷ order_lines ps)))
one_list (o ∷ os) [] f g e = absurd (omega (arith, ap length e, length-append (order_line o) (10 ∷ order_lines os)))
one_list (o ∷ os) (p ∷ ps) f g e =
    let h = line_split (order_line o) (order_line p) (order_lines os) (order_lines ps) (order_printed o) (order_printed p) e in
    ap (λ (x : Order). x ∷ os) (one_order o p f.0 g.0 h.0) ∙ ap (λ (l : List Order). p ∷ l) (one_list os ps f.1 g.1 h.1)

-- lines that are all ended lack no end
not_both : (os ps : List Order) → order_lines os ++ (10 ∷ []) ≡ order_lines ps → ⊥
unfolding order_lines
not_both [] [] e = omega (arith, ap length e)
not_both [] (p ∷ ps) e = no_line p (line_split [] (order_line p) [] (order_lines ps) tt (order_printed p) e).0
not_both (o ∷ os) [] e = omega (arith, ap length e, length-append (order_line o ++ (10 ∷ order_lines os)) (10 ∷ []))
not_both (o ∷ os) (p ∷ ps) e =
    not_both os ps
    (line_split (order_line o) (order_line p) (order_lines os ++ (10 ∷ [])) (order_lines ps) (order_printed o) (order_printed p)
    (sym (append_assoc (order_line o) (10 ∷ order_lines os) (10 ∷ [])) ∙ e)).1

pub says_one : (text : List ℕ) (os ps : List Order) → Says text os → Says text ps → os ≡ ps
says_one text os ps s t =
    ⊎_elim (λ a. ⊎_elim (λ b. same (sym a ∙ b)) (λ b. absurd (not_both os ps (ap (λ (l : List ℕ). l ++ (10 ∷ [])) (sym a) ∙ b))) t.lines)
    (λ a. ⊎_elim (λ b. absurd (not_both ps os (ap (λ (l : List ℕ). l ++ (10 ∷ [])) (sym b) ∙ a))) (λ b. same (sym a ∙ b)) t.lines) s.lines
  where
    same : order_lines os ≡ order_lines ps → os ≡ ps
    same e = one_list os ps s.fit t.fit e
