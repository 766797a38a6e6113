-- The least time says how many words are read: its block is the first with a registered time.
use mathlib.Core.Path.{◌≡◌, refl, sym, ap, ◌∙◌, subst}
use mathlib.Core.Bool.{Bool, true, false, cond, not, ◌&&◌}
use mathlib.Core.Option.{Option, none, some}
use mathlib.Core.List.{List, [], ◌∷◌}
use Prim.Native.Nat.{ℕ, zero, suc, ◌+◌, ◌-◌, ◌≤◌, ◌<◌}
use native.Mathlib.Nat.{add-zero, add-suc, suc-add}
use native.Mathlib.Omega.{arith}
use lib.Dec.{eqb}
use lib.ListN.{get_or}
use borrow.Author.Tests.{eq-eqb, ne_eqb}
use Rattle.calendar_ring.specs.Ring.{block_of, ring_end}
use Rattle.calendar_ring.specs.WordsRead.{none_in, words_from, words_read}
use Rattle.calendar_ring.proofs.Blocks.{block_mono, block_in, block_after}

-- ---- a block with a registered time

none_some : {t : ℕ} → ◌≡◌ {A = Option ℕ} none (some t) → ⊥
none_some e = let z : ◌≡◌ {A = ℕ} 0 1 = cc in omega arith

and_false : (v : Bool) → v && false ≡ false
and_false true = refl
and_false false = refl

pub some_in : (a w b : ℕ) (ts : List (Option ℕ)) (x t : ℕ) → get_or ts x none ≡ some t → block_of a w t ≡ b → none_in a w ts b ≡ false
unfolding none_in
some_in a w b [] x t e q = absurd (none_some e)
some_in a w b (none ∷ ts) zero t e q = absurd (none_some e)
some_in a w b (none ∷ ts) (suc x) t e q = some_in a w b ts x t e q
some_in a w b (some u ∷ ts) zero t e q = let z : u ≡ t = cc in rw (z, eq-eqb (block_of a w t) b q)
some_in a w b (some u ∷ ts) (suc x) t e q = rw (some_in a w b ts x t e q) (and_false (not (eqb (block_of a w u) b)))

pub none_in_lem : (a w b : ℕ) (ts : List (Option ℕ)) → ((x u : ℕ) → get_or ts x none ≡ some u → block_of a w u ≡ b → ⊥) → none_in a w ts b ≡ true
unfolding none_in
none_in_lem a w b [] h = refl
none_in_lem a w b (none ∷ ts) h = none_in_lem a w b ts (λ x u e. h (suc x) u e)
none_in_lem a w b (some u ∷ ts) h = rw (ne_eqb (block_of a w u) b (h zero u refl)) (none_in_lem a w b ts (λ x v e. h (suc x) v e))

-- ---- the count, whatever says which root words are zero

next_block : (b k : ℕ) → b + suc k ≡ suc b + k
next_block b k = add-suc b k ∙ sym (suc-add b k)

module _ (z : ℕ → Bool) where
  shifted : {v : Bool} (n b : ℕ) → ((k : ℕ) → k < suc n → z (b + k) ≡ v) → (k : ℕ) → k < n → z (suc b + k) ≡ v
  shifted {v} n b f k h = subst (λ m. z m ≡ v) (next_block b k) (f (suc k) (omega arith))

  here : {v : Bool} (b : ℕ) → z (b + 0) ≡ v → z b ≡ v
  here b e = rw add-zero at e

  -- d root words are zero before the first that isn't: d + 1 are read, and a node word
  pub words_at : (n b d : ℕ) → d < n → z (b + d) ≡ false → ((k : ℕ) → k < d → z (b + k) ≡ true) → words_from z b n ≡ d + 2
  unfolding words_from
  words_at zero b d l t f = absurd (omega arith)
  words_at (suc n) b zero l t f = rw (here b t)
  words_at (suc n) b (suc d) l t f =
      rw (here b (f 0 (omega arith)))
      (ap suc (words_at n (suc b) d (omega arith) (subst (λ m. z m ≡ false) (next_block b d) t) (shifted d b f)) ∙ sym (suc-add d 2))

  -- all are zero
  pub words_none : (n b : ℕ) → ((k : ℕ) → k < n → z (b + k) ≡ true) → words_from z b n ≡ n
  unfolding words_from
  words_none zero b f = refl
  words_none (suc n) b f = rw (here b (f 0 (omega arith))) (ap suc (words_none n (suc b) (shifted n b f)))

  -- "It never exceeds 17."
  pub words_most : (n b : ℕ) → words_from z b n ≤ n + 1
  unfolding words_from
  words_most zero b = omega arith
  words_most (suc n) b = go (z b) (words_most n (suc b))
    where
      go : (v : Bool) → words_from z (suc b) n ≤ n + 1 → cond v (suc (words_from z (suc b) n)) 2 ≤ suc n + 1
      go true l = omega arith
      go false l = omega arith

-- the same root words are zero
pub words_same : (y z : ℕ → Bool) (n b : ℕ) → ((k : ℕ) → k < n → y (b + k) ≡ z (b + k)) → words_from y b n ≡ words_from z b n
unfolding words_from
words_same y z zero b f = refl
words_same y z (suc n) b f =
    let e : y b ≡ z b = rw add-zero at (f 0 (omega arith)) in
    let r = words_same y z n (suc b) (λ k h. subst (λ m. y m ≡ z m) (next_block b k) (f (suc k) (omega arith))) in
    rw (e, r)

-- ---- of the least time t, of station s

module _
    (a w floor : ℕ) (pa : 0 < a) (pw : 0 < w) (ts : List (Option ℕ)) (s t : ℕ) (has : get_or ts s none ≡ some t)
    (least : (x u : ℕ) → get_or ts x none ≡ some u → t ≤ u) (up : floor ≤ t)
  where
    -- no registered time lies in an earlier block
    before : (b : ℕ) → b < block_of a w t → none_in a w ts b ≡ true
    before b l = none_in_lem a w b ts (λ x u e q. omega (arith, block_mono a w pa pw t u (least x u e), q, l))

    pub words_ring : t < ring_end a w floor → words_read a w floor ts ≡ block_of a w t - block_of a w floor + 2
    unfolding words_read
    words_ring h =
        let lo : block_of a w floor ≤ block_of a w t = block_mono a w pa pw floor t up in
        let hi : block_of a w t < block_of a w floor + 16 = block_in a w pa pw floor t h in
        words_at (none_in a w ts) 16 (block_of a w floor) (block_of a w t - block_of a w floor) (omega arith)
        (some_in a w _ ts s t has (omega arith))
        (λ k l. before (block_of a w floor + k) (omega arith))

    pub words_over : ring_end a w floor ≤ t → words_read a w floor ts ≡ 16
    unfolding words_read
    words_over h =
        let hi : block_of a w floor + 16 ≤ block_of a w t = block_after a w pa pw floor t h in
        words_none (none_in a w ts) 16 (block_of a w floor) (λ k l. before (block_of a w floor + k) (omega arith))

-- ---- of any times

pub words_seventeen : (a w floor : ℕ) (ts : List (Option ℕ)) → words_read a w floor ts ≤ 17
unfolding words_read
words_seventeen a w floor ts = words_most (none_in a w ts) 16 (block_of a w floor)
