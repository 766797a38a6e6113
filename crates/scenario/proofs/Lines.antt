-- The lines of orders: one more of them, two lists of them joined, and that no line has the byte that ends it.
use mathlib.Core.Path.{◌≡◌, refl, sym, ap, subst, ◌∙◌}
use mathlib.Core.Logic.{◌≢◌}
use mathlib.Core.Bool.{Bool, true, false, ◌||◌}
use mathlib.Core.List.{List, [], ◌∷◌, ◌++◌, append_assoc, append-nil}
use Prim.Native.Nat.{ℕ, zero, suc, ◌<◌}
use native.Mathlib.Omega.{arith}
use lib.ListN.{length, get_or}
use Rattle.line.specs.Order.{All}
use Rattle.line.proofs.Members.{all_append}
use Rattle.text.proofs.Bytes.{Printed, spaced_printed}
use Rattle.rules.specs.Engine.{Call}
use Rattle.scenario.specs.declared.Order.{Order}
use Rattle.scenario.specs.declared.Order.TheVariants.{Days, Read, Level}
use Rattle.scenario.specs.Orders.{days_word, read_word, level_word, order_line, FitsOrder}
use Rattle.scenario.specs.Scenario.{order_lines, AllFit, days_in, days_from, calls_in, order_calls, is_read, has_read}

-- ---- the lines

pub order_lines_append : (os ps : List Order) → order_lines (os ++ ps) ≡ order_lines os ++ order_lines ps
unfolding order_lines
order_lines_append [] ps = refl
order_lines_append (o ∷ os) ps =
    ap (λ (l : List ℕ). order_line o ++ (10 ∷ l)) (order_lines_append os ps) ∙ sym (append_assoc (order_line o) (10 ∷ order_lines os) (order_lines ps))

pub order_lines_snoc : (os : List Order) (o : Order) → order_lines (os ++ (o ∷ [])) ≡ order_lines os ++ (order_line o ++ (10 ∷ []))
unfolding order_lines
order_lines_snoc os o = order_lines_append os (o ∷ [])

pub AllFit-append : (os ps : List Order) → AllFit os → AllFit ps → AllFit (os ++ ps)
AllFit-append os ps f g = all_append FitsOrder os ps f g

pub AllFit-parts : (os ps : List Order) → AllFit (os ++ ps) → AllFit os × AllFit ps
AllFit-parts [] ps f = (tt, f)
AllFit-parts (o ∷ os) ps f = let h = AllFit-parts os ps f.1 in ((f.0, h.0), h.1)

-- ---- the days, the calls, whether one reads

-- `daysIn` says what each form of the last order makes of it
pub days_from_snoc : (d : ℕ) (os : List Order) (o : Order) → days_from d (os ++ (o ∷ [])) ≡ days_in (days_from d os) o
unfolding days_from
days_from_snoc d [] o = refl
days_from_snoc d (p ∷ os) o = days_from_snoc (days_in d p) os o

pub order_calls_append : (os ps : List Order) → order_calls (os ++ ps) ≡ order_calls os ++ order_calls ps
unfolding order_calls
order_calls_append [] ps = refl
order_calls_append (o ∷ os) ps = ap (λ (l : List Call). calls_in o ++ l) (order_calls_append os ps) ∙ sym (append_assoc (calls_in o) (order_calls os) (order_calls ps))

pub order_calls_snoc : (os : List Order) (o : Order) → order_calls (os ++ (o ∷ [])) ≡ order_calls os ++ calls_in o
unfolding order_calls
order_calls_snoc os o = order_calls_append os (o ∷ []) ∙ ap (λ (l : List Call). order_calls os ++ l) (append-nil (calls_in o))

pub has_read_snoc : (os : List Order) (o : Order) → has_read (os ++ (o ∷ [])) ≡ (has_read os || is_read o)
unfolding has_read
has_read_snoc [] o = or_false (is_read o)
  where
    or_false : (b : Bool) → (b || false) ≡ b
    or_false true = refl
    or_false false = refl
has_read_snoc (p ∷ os) o = go (is_read p) (has_read_snoc os o)
  where
    go : (b : Bool) → has_read (os ++ (o ∷ [])) ≡ (has_read os || is_read o) → (b || has_read (os ++ (o ∷ []))) ≡ ((b || has_read os) || is_read o)
    go true e = refl
    go false e = e

-- ---- byte 10 ends a line, and stands in none

pub order_printed : (o : Order) → All Printed (order_line o)
unfolding order_line
order_printed (Days d) = spaced_printed days_word _ ((omega arith, (omega arith, (omega arith, (omega arith, tt)))))
order_printed (Read s t) = spaced_printed read_word _ ((omega arith, (omega arith, (omega arith, (omega arith, tt)))))
order_printed (Level s t m) = spaced_printed level_word _ ((omega arith, (omega arith, (omega arith, (omega arith, (omega arith, tt))))))

printed_at : (xs : List ℕ) (i : ℕ) → i < length xs → All Printed xs → Printed (get_or xs i 0)
printed_at [] i l a = absurd (omega arith)
printed_at (x ∷ xs) zero l a = a.0
printed_at (x ∷ xs) (suc i) l a = printed_at xs i (omega arith) a.1

printed_part : (xs : List ℕ) (b : ℕ) (ys : List ℕ) → All Printed (xs ++ (b ∷ ys)) → Printed b
printed_part [] b ys a = a.0
printed_part (x ∷ xs) b ys a = printed_part xs b ys a.1

pub unended : (o : Order) (i : ℕ) → i < length (order_line o) → get_or (order_line o) i 0 ≢ 10
unended o i l e = let p = printed_at (order_line o) i l (order_printed o) in omega arith

pub no_end : (o : Order) (front rest : List ℕ) → order_line o ≡ front ++ (10 ∷ rest) → ⊥
no_end o front rest e = let p = printed_part front 10 rest (subst (λ (l : List ℕ). All Printed l) e (order_printed o)) in omega arith
