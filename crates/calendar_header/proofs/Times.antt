-- A station's time is read off its due number, and one due changed is one time changed.
use mathlib.Core.Path.{◌≡◌, refl, sym, ap, ap₂, ◌∙◌, subst}
use mathlib.Core.Logic.{◌⊎◌, inl, inr}
use mathlib.Core.Option.{Option, none, some}
use mathlib.Core.List.{List, ◌∷◌}
use Prim.Native.Nat.{ℕ, zero, suc, ◌+◌, ◌-◌, ◌<◌, ◌≤◌}
use native.Mathlib.Nat.{add-zero, add-suc, suc-add, zero-add}
use native.Mathlib.Omega.{arith}
use lib.ListN.{length, get_or, set, replicate, length-set, get_or-eq_default}
use lib.Seq.{ext_get_or, get_or-set_same, get_or-set_other}
use Rattle.words.proofs.Cases.{eq_or}
use Rattle.calendar_header.specs.Bytes.{time_for, times_from}

-- ---- one time

pub time_due : (d : ℕ) → (d ≡ 0 → ⊥) → time_for d ≡ some (d - 1)
unfolding time_for
time_due zero r = absurd (r refl)
time_due (suc d) r = let z : d ≡ suc d - 1 = omega arith in ap some z

pub due_time : (d t : ℕ) → time_for d ≡ some t → d ≡ suc t
unfolding time_for
due_time zero t e = absurd (let z : ◌≡◌ {A = ℕ} 0 1 = cc in omega arith)
due_time (suc d) t e = let z : d ≡ t = cc in ap suc z

-- ---- all times

pub times_length : (due : ℕ → ℕ) (i n : ℕ) → length (times_from due i n) ≡ n
unfolding times_from
times_length due i zero = refl
times_length due i (suc n) = ap suc (times_length due (suc i) n)

times_at_from : (due : ℕ → ℕ) (i n k : ℕ) → k < n → get_or (times_from due i n) k none ≡ time_for (due (i + k))
unfolding times_from
times_at_from due i zero k h = absurd (omega arith)
times_at_from due i (suc n) zero h = ap (λ (y : ℕ). time_for (due y)) (sym (add-zero i))
times_at_from due i (suc n) (suc k) h = times_at_from due (suc i) n k (omega arith) ∙ ap (λ (y : ℕ). time_for (due y)) (suc-add i k ∙ sym (add-suc i k))

pub times_at : (due : ℕ → ℕ) (n k : ℕ) → k < n → get_or (times_from due 0 n) k none ≡ time_for (due k)
times_at due n k h = times_at_from due 0 n k h ∙ ap (λ (y : ℕ). time_for (due y)) (zero-add k)

pub times_past : (due : ℕ → ℕ) (n k : ℕ) → n ≤ k → get_or (times_from due 0 n) k none ≡ none
times_past due n k h = get_or-eq_default (times_from due 0 n) none (rw times_length h)

pub times_same : (due due' : ℕ → ℕ) (n : ℕ) → ((x : ℕ) → x < n → due' x ≡ due x) → times_from due' 0 n ≡ times_from due 0 n
times_same due due' n h =
    ext_get_or none (times_from due' 0 n) (times_from due 0 n) (times_length due' 0 n ∙ sym (times_length due 0 n))
    (λ k lk.
    let q : k < n = subst (λ (y : ℕ). k < y) (times_length due' 0 n) lk in
    times_at due' n k q ∙ ap time_for (h k q) ∙ sym (times_at due n k q))

pub times_set : (due due' : ℕ → ℕ) (n s v : ℕ) → s < n → due' s ≡ v → ((x : ℕ) → x < n → (x ≡ s → ⊥) → due' x ≡ due x)
    → times_from due' 0 n ≡ set (times_from due 0 n) s (time_for v)
times_set due due' n s v ls e o =
    ext_get_or none (times_from due' 0 n) (set (times_from due 0 n) s (time_for v))
    (times_length due' 0 n ∙ sym (length-set (times_from due 0 n) s (time_for v) ∙ times_length due 0 n))
    (λ k lk. go k (subst (λ (y : ℕ). k < y) (times_length due' 0 n) lk) (eq_or k s))
  where
    go : (k : ℕ) → k < n → (k ≡ s) ⊎ (k ≡ s → ⊥) → get_or (times_from due' 0 n) k none ≡ get_or (set (times_from due 0 n) s (time_for v)) k none
    go k lk (inl q) =
        times_at due' n k lk ∙ ap (λ (y : ℕ). time_for (due' y)) q ∙ ap time_for e
        ∙ sym (ap (λ (y : ℕ). get_or (set (times_from due 0 n) s (time_for v)) y none) q
        ∙ get_or-set_same (times_from due 0 n) s (time_for v) none (subst (λ (y : ℕ). s < y) (sym (times_length due 0 n)) ls))
    go k lk (inr q) =
        times_at due' n k lk ∙ ap time_for (o k lk q) ∙ sym (get_or-set_other (times_from due 0 n) s k (time_for v) none q ∙ times_at due n k lk)

pub times_none : (due : ℕ → ℕ) (i n : ℕ) → ((x : ℕ) → x < i + n → due x ≡ 0) → times_from due i n ≡ replicate n none
unfolding times_from time_for
times_none due i zero h = refl
times_none due i (suc n) h =
    ap₂ (λ (a : Option ℕ) (l : List (Option ℕ)). a ∷ l) (ap time_for (h i (omega arith))) (times_none due (suc i) n (λ x l. h x (omega arith)))
