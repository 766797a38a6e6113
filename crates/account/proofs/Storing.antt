-- Charges stored: what a store leaves of the other bytes, the part with the charges set to 0, and a part's costs added to them, entry by entry.
use mathlib.Core.Path.{◌≡◌, refl, sym, ap, ap₂, ◌∙◌}
use mathlib.Core.Bool.{Bool, true, false, cond}
use mathlib.Core.Logic.{inl, inr}
use mathlib.Core.List.{List}
use Prim.Native.Nat.{ℕ, zero, suc, ◌+◌, ◌-◌, ◌*◌, ◌/◌, ◌%◌, ◌≤◌, ◌<◌}
use native.Mathlib.Decide.{dec_lt}
use native.Mathlib.Omega.{arith}
use lib.Dec.{leb}
use lib.ListN.{length, get_or, set, take, drop, replicate}
use lib.Seq.{get_or-set_same, get_or-set_other, drop-set-lt}
use borrow.Rule.Slice.PartMut.{put_mid, same_len_mid, mid_len, drop_put as drop_mid}
use Rattle.std.proofs.lemmas.List.{length-take-le, get_or_append_left, get_or-append_right, get_or-take}
use Rattle.words.specs.Le.{le_at, load_at, put_le, store_at}
use Rattle.words.proofs.Total.{load_in}
use Rattle.words.proofs.Laws.{length_store, load_other, load_stored}
use Rattle.line.proofs.Order.{Which, this, other, which}
use Rattle.account_parts.specs.Part.{entry_at, entries_of}
use Rattle.account_parts.specs.Cost.{cost_at}
use Rattle.account_parts.proofs.FirstEntries.{some_target}
use Rattle.account.specs.Account.{charge_at}
use Rattle.account.specs.Steps.{Costs, CostsFit, OnlyCharges, CostsStored, ChargesCleared}
use Rattle.account.proofs.Adding.{zeros, costs_set}

-- ---- one charge stored

drop_put : (w i v k : ℕ) (xs : List ℕ) → i + w ≤ k → drop k (put_le w i v xs) ≡ drop k xs
unfolding put_le
drop_put zero i v k xs h = refl
drop_put (suc w) i v k xs h = drop_put w (suc i) (v / 256) k (set xs i (v % 256)) (omega arith) ∙ drop-set-lt k xs i (v % 256) (omega arith)

pub drop_store : (w i v k : ℕ) (xs : List ℕ) → i + w ≤ k → drop k (store_at w i v xs) ≡ drop k xs
unfolding store_at
drop_store w i v k xs h = go (leb (i + w) (length xs))
  where
    go : (b : Bool) → drop k (cond b (put_le w i v xs) xs) ≡ drop k xs
    go true = drop_put w i v k xs h
    go false = refl

same_only : (n : ℕ) (xs : List ℕ) → OnlyCharges n xs xs
same_only n xs = record { size = refl; reading = refl; frame = refl; rest = refl }

only_charge : (n t v : ℕ) (xs ys : List ℕ) → t < n → OnlyCharges n xs ys → OnlyCharges n xs (store_at 8 (8 + 8 * t) v ys)
only_charge n t v xs ys l h = record {
  size = length_store 8 (8 + 8 * t) v ys ∙ h.size;
  reading = load_other 4 8 (8 + 8 * t) v ys 0 (inr (omega arith)) ∙ h.reading;
  frame = load_other 4 8 (8 + 8 * t) v ys 4 (inr (omega arith)) ∙ h.frame;
  rest = drop_store 8 (8 + 8 * t) v (8 + 8 * n) ys (omega arith) ∙ h.rest;
}

charge_here : (t v : ℕ) (ys : List ℕ) → 8 + 8 * t + 8 ≤ length ys → v ≤ 18446744073709551615 → charge_at (store_at 8 (8 + 8 * t) v ys) t ≡ v
charge_here t v ys l f = load_stored 8 (8 + 8 * t) v ys l (omega (arith, f))

charge_there : (t v s : ℕ) (ys : List ℕ) → (s ≡ t → ⊥) → charge_at (store_at 8 (8 + 8 * t) v ys) s ≡ charge_at ys s
charge_there t v s ys d = go (dec_lt s t)
  where
    go : Dec (s < t) → charge_at (store_at 8 (8 + 8 * t) v ys) s ≡ charge_at ys s
    go (yes l) = load_other 8 8 (8 + 8 * t) v ys (8 + 8 * s) (inr (omega arith))
    go (no l) = load_other 8 8 (8 + 8 * t) v ys (8 + 8 * s) (inl (omega (arith, d)))

-- ---- the charges set to 0

-- numbers whose bytes are the same, or 0
le_equal : (w i : ℕ) (xs ys : List ℕ) → ((j : ℕ) → j < i + w → get_or ys j 0 ≡ get_or xs j 0) → le_at w i ys ≡ le_at w i xs
unfolding le_at
le_equal zero i xs ys h = refl
le_equal (suc w) i xs ys h = ap₂ (λ (a b : ℕ). a * 256 + b) (le_equal w (suc i) xs ys (λ j l. h j (omega arith))) (h i (omega arith))

load_equal : (w i : ℕ) (xs ys : List ℕ) → length ys ≡ length xs → ((j : ℕ) → j < i + w → get_or ys j 0 ≡ get_or xs j 0) → load_at w i ys ≡ load_at w i xs
unfolding load_at
load_equal w i xs ys e h = rw (e, le_equal w i xs ys h)

le_zero : (w i : ℕ) (xs : List ℕ) → ((j : ℕ) → i ≤ j → j < i + w → get_or xs j 0 ≡ 0) → le_at w i xs ≡ 0
unfolding le_at
le_zero zero i xs h = refl
le_zero (suc w) i xs h = ap₂ (λ (a b : ℕ). a * 256 + b) (le_zero w (suc i) xs (λ j k l. h j (omega arith) (omega arith))) (h i (omega arith) (omega arith))

-- zs, which are all 0, in the place of the charges
module _ (n m : ℕ) (xs zs : List ℕ) (l : 8 + 8 * n ≤ length xs) (size : length zs ≡ 8 + 8 * n - 8) (e : zs ≡ replicate {A = ℕ} m 0) where
  abbrev ys : List ℕ
  ys = put_mid 8 (8 + 8 * n - 8) xs zs

  long : length ys ≡ length xs
  long = same_len_mid 8 (8 + 8 * n - 8) xs zs (size ∙ sym (mid_len 8 (8 + 8 * n) xs l))

  front : length (take 8 xs) ≡ 8
  front = length-take-le 8 xs (omega arith)

  before : (j : ℕ) → j < 8 → get_or ys j 0 ≡ get_or xs j 0
  before j h = get_or_append_left (take 8 xs) _ 0 j (omega (arith, front)) ∙ get_or-take 8 xs j 0 h

  within : (j : ℕ) → 8 ≤ j → j < 8 + 8 * n → get_or ys j 0 ≡ 0
  within j h k =
      get_or-append_right (take 8 xs) _ 8 j 0 front h ∙ get_or_append_left zs _ 0 (j - 8) (omega (arith, size)) ∙ ap (λ (vs : List ℕ). get_or vs (j - 8) 0) e ∙ zeros m (j - 8)

  pub charges_cleared : ChargesCleared n n xs ys
  charges_cleared = record {
    only = record {
      size = long;
      reading = load_equal 4 0 xs ys long (λ j h. before j (omega arith));
      frame = load_equal 4 4 xs ys long (λ j h. before j (omega arith));
      rest = drop_mid 8 (8 + 8 * n) xs zs (omega arith) l size;
    };
    charges = λ s h.
        load_in 8 (8 + 8 * s) ys (omega (arith, long)) ∙ le_zero 8 (8 + 8 * s) ys (λ j a b. within j (omega arith) (omega arith));
  }

-- ---- the costs of the first k entries' targets stored

-- ws are the costs that are left to be stored
pub record StoredSoFar (n : ℕ) (part vs xs : List ℕ) (k : ℕ) (ys ws : List ℕ) : Type 0 where
  pub words : Costs ws
  pub only : OnlyCharges n xs ys
  pub sums : (s : ℕ) → s < n → charge_at ys s + get_or ws s 0 ≡ charge_at xs s + get_or vs s 0
  pub less : (s : ℕ) → get_or ws s 0 ≤ get_or vs s 0
  pub gone : (i : ℕ) → i < k → (entry_at (24 * i) part).target < n → get_or ws (entry_at (24 * i) part).target 0 ≡ 0

module _ (n : ℕ) (part vs xs : List ℕ) where
  pub stored_none : Costs vs → StoredSoFar n part vs xs 0 xs vs
  stored_none w = record {
    words = w;
    only = same_only n xs;
    sums = λ s l. refl;
    less = λ s. omega arith;
    gone = λ i l. absurd (omega arith);
  }

  module _ (k : ℕ) (ys ws : List ℕ) (h : StoredSoFar n part vs xs k ys ws) (t : ℕ) (et : t ≡ (entry_at (24 * k) part).target) where
    pub stored_beside : n ≤ t → StoredSoFar n part vs xs (k + 1) ys ws
    stored_beside l = record {
      words = h.words;
      only = h.only;
      sums = h.sums;
      less = h.less;
      gone = λ i m u. go i m u (which i k);
    }
      where
        go : (i : ℕ) → i < k + 1 → (entry_at (24 * i) part).target < n → Which i k → get_or ws (entry_at (24 * i) part).target 0 ≡ 0
        go i m u (this e _) = let f : (entry_at (24 * k) part).target < n = rw e at u in absurd (omega (arith, f, et))
        go i m u (other e _) = h.gone i (omega (arith, e)) u

    pub stored_next : t < n → n ≤ 256 → 8 + 8 * n ≤ length xs → CostsFit n vs xs → (v : ℕ) → v ≡ charge_at ys t + get_or ws t 0
        → StoredSoFar n part vs xs (k + 1) (store_at 8 (8 + 8 * t) v ys) (set ws t 0)
    stored_next l m o f v ev = record {
      words = costs_set ws t 0 (omega arith) (omega arith) h.words;
      only = only_charge n t v xs ys l h.only;
      sums = λ s i. sum s i (which s t);
      less = λ s. low s (which s t);
      gone = λ i j u. none i j u (which (entry_at (24 * i) part).target t);
    }
      where
        inside : t < length ws
        inside = omega (arith, h.words.count)

        sum : (s : ℕ) → s < n → Which s t → charge_at (store_at 8 (8 + 8 * t) v ys) s + get_or (set ws t 0) s 0 ≡ charge_at xs s + get_or vs s 0
        sum s i (this e _) =
            rw (e, charge_here t v ys (omega (arith, h.only.size)) (omega (arith, ev, h.sums t l, f.sums t l)), get_or-set_same ws t 0 0 inside) (omega (arith, ev, h.sums t l))
        sum s i (other e _) = rw (charge_there t v s ys e, get_or-set_other ws t s 0 0 e) (h.sums s i)

        low : (s : ℕ) → Which s t → get_or (set ws t 0) s 0 ≤ get_or vs s 0
        low s (this e _) = rw (e, get_or-set_same ws t 0 0 inside) (omega arith)
        low s (other e _) = rw (get_or-set_other ws t s 0 0 e) (h.less s)

        none : (i : ℕ) → i < k + 1 → (entry_at (24 * i) part).target < n → Which (entry_at (24 * i) part).target t
            → get_or (set ws t 0) (entry_at (24 * i) part).target 0 ≡ 0
        none i j u (this e _) = rw (e, get_or-set_same ws t 0 0 inside)
        none i j u (other e _) = get_or-set_other ws t _ 0 0 e ∙ h.gone i (earlier i j e (which i k)) u
          where
            earlier : (i : ℕ) → i < k + 1 → ((entry_at (24 * i) part).target ≡ t → ⊥) → Which i k → i < k
            earlier i j e (this d _) = absurd (e (rw d (sym et)))
            earlier i j e (other d _) = omega (arith, d)

  -- after all entries nothing is left
  pub stored_all : (k : ℕ) (ys ws : List ℕ) → length part / 24 ≡ k → StoredSoFar n part vs xs k ys ws → CostsStored n part vs xs ys
  unfolding entries_of
  stored_all k ys ws ek h = record { only = h.only; charges = λ a b s l e. omega (arith, h.sums s l, left a b s l e (dec_lt 0 (get_or vs s 0))) }
    where
      left : (a b s : ℕ) → s < n → get_or vs s 0 ≡ cost_at a b s (entries_of part) → Dec (0 < get_or vs s 0) → get_or ws s 0 ≡ 0
      left a b s l e (no d) = omega (arith, h.less s)
      left a b s l e (yes d) =
          let i = some_target a b s part (length part / 24) (omega (arith, d, e)) in
          rw i.2 at (h.gone i.0 (omega (arith, ek, i.1)) (rw i.2 l))
