-- Lowest and extract have one answer on the bytes that an opening and the calls after it left.
use mathlib.Core.Path.{◌≡◌, refl, sym, ap, ◌∙◌, subst}
use mathlib.Core.Logic.{◌⊎◌, inl, inr}
use mathlib.Core.Option.{Option}
use mathlib.Core.List.{List, [], ◌∷◌}
use Prim.Native.Nat.{ℕ, ◌≤◌, ◌<◌}
use native.Mathlib.Omega.{arith}
use Rattle.refusal.specs.Tests.{says, judged}
use Rattle.refusal.proofs.CheckingOrder.{not_both}
use Rattle.std.specs.Prelude.{Result, Ok, Err, IfOk, IfErr}
use Rattle.refusal.specs.declared.Refusal.{Refusal}
use Rattle.refusal.specs.declared.Refusal.TheVariants.{Idle}
use Rattle.calendar_answers.specs.declared.Least.{Least}
use Rattle.calendar_header.specs.Rules.{Calendar, none_registered, lowest_checks, words_of, LeastAt}
use Rattle.calendar_header.specs.Promises.{verdict_of, Names}
use Rattle.calendar_header.proofs.Tests.{least_before}
use Rattle.calendar.specs.Left.{Left}
use Rattle.calendar.proofs.Calls.{left_names}

one_least : {ts : List (Option ℕ)} {s t x u : ℕ} → LeastAt ts s t → LeastAt ts x u → (s ≡ x) × (t ≡ u)
one_least {ts} {s} {t} {x} {u} l k = go (least_before l x u k.has) (least_before k s t l.has)
  where
    go : (t < u) ⊎ ((t ≡ u) × (s ≤ x)) → (u < t) ⊎ ((u ≡ t) × (x ≤ s)) → (s ≡ x) × (t ≡ u)
    go (inl a) (inl b) = absurd (omega arith)
    go (inl a) (inr b) = absurd (omega (arith, b.0))
    go (inr a) (inl b) = absurd (omega (arith, a.0))
    go (inr a) (inr b) = (omega (arith, a.1, b.1), a.0)

-- the answer without its count
abbrev pub without_count : Result Least Refusal → Result Least Refusal
without_count (Ok a) = Ok (record { station = a.station; time = a.time; words = 0 })
without_count (Err e) = Err e

-- two calendars with the same registered times name the same station and time, or both refuse, whatever arity, leaf width and floor each has
pub same_name : {xs ys : List ℕ} {p q : Calendar} {r m : Result Least Refusal} → Left xs p → Left ys q → p.times ≡ q.times → Names xs r → Names ys m
    → without_count r ≡ without_count m
same_name {p = p} {q = q} {r = r} {m = m} L K e N M = go r m (left_names L N) (left_names K M) N.idle M.idle
  where
    go : (a b : Result Least Refusal)
        → (verdict_of a ≡ judged (lowest_checks p)) × IfOk a (λ x. LeastAt p.times x.station x.time × (x.words ≡ words_of p))
        → (verdict_of b ≡ judged (lowest_checks q)) × IfOk b (λ x. LeastAt q.times x.station x.time × (x.words ≡ words_of q))
        → IfErr a (λ f. f ≡ Idle) → IfErr b (λ f. f ≡ Idle) → without_count a ≡ without_count b
    go (Ok a) (Ok b) l k _ _ =
        let z = one_least l.1.0 (subst (λ ts. LeastAt ts b.station b.time) (sym e) k.1.0) in
        λ i. Ok (record { station = z.0 i; time = z.1 i; words = 0 })
    go (Ok a) (Err f) l k _ _ = absurd (not_both (sym (l.0 ∙ ap (λ ts. judged (says 14 (none_registered ts) ∷ [])) e)) (sym k.0))
    go (Err f) (Ok b) l k _ _ = absurd (not_both (sym k.0) (sym (l.0 ∙ ap (λ ts. judged (says 14 (none_registered ts) ∷ [])) e)))
    go (Err f) (Err g) l k i j = ap Err (i ∙ sym j)

-- with the same arity, leaf width and floor too the count is the same
pub one_name : {xs ys : List ℕ} {q : Calendar} {r m : Result Least Refusal} → Left xs q → Left ys q → Names xs r → Names ys m → r ≡ m
one_name {q = q} {r = r} {m = m} L K N M = go r m (left_names L N).1 (left_names K M).1 (same_name L K refl N M)
  where
    go : (a b : Result Least Refusal) → IfOk a (λ x. LeastAt q.times x.station x.time × (x.words ≡ words_of q))
        → IfOk b (λ x. LeastAt q.times x.station x.time × (x.words ≡ words_of q)) → without_count a ≡ without_count b → a ≡ b
    go (Ok a) (Ok b) l k e =
        let z = one_least l.0 k.0 in
        let w = l.1 ∙ sym k.1 in
        λ i. Ok (record { station = z.0 i; time = z.1 i; words = w i })
    go (Ok a) (Err f) l k e = absurd (let z : ◌≡◌ {A = ℕ} 0 1 = cc in omega arith)
    go (Err f) (Ok b) l k e = absurd (let z : ◌≡◌ {A = ℕ} 0 1 = cc in omega arith)
    go (Err f) (Err g) l k e = e
