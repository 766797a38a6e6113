-- The list and the rank of a place depend on its own due and list only.
use mathlib.Core.Path.{◌≡◌, refl, sym, ap, ◌∙◌, subst}
use mathlib.Core.Logic.{◌⊎◌, inl, inr}
use Prim.Native.Nat.{ℕ, ◌+◌, ◌-◌, ◌*◌, ◌≤◌, ◌<◌}
use native.Mathlib.Nat.{lt_irrefl}
use borrow.Author.Tests.{lt-ltb, le-ltb}
use Rattle.calendar_cells.specs.Lists.{Live, list_of, rank_of, Back, Lists}
use Rattle.words.proofs.Cases.{lt_or}

pub list_station : (at : ℕ → ℕ) (p : ℕ) → p < 256 → list_of at p ≡ at p
unfolding list_of
list_station at p h = rw (lt-ltb p 256 h)

pub list_head : (at : ℕ → ℕ) (p : ℕ) → 256 ≤ p → list_of at p ≡ p - 256
unfolding list_of
list_head at p h = rw (le-ltb p 256 h)

pub rank_station : (due : ℕ → ℕ) (p : ℕ) → p < 256 → rank_of due p ≡ due p * 256 + p
unfolding rank_of
rank_station due p h = rw (lt-ltb p 256 h)

pub rank_head : (due : ℕ → ℕ) (p : ℕ) → 256 ≤ p → rank_of due p ≡ 0
unfolding rank_of
rank_head due p h = rw (le-ltb p 256 h)

pub list_same : (at at' : ℕ → ℕ) (p : ℕ) → (p < 256 → at' p ≡ at p) → list_of at' p ≡ list_of at p
list_same at at' p h = go (lt_or p 256)
  where
    go : (p < 256) ⊎ (256 ≤ p) → list_of at' p ≡ list_of at p
    go (inl l) = list_station at' p l ∙ h l ∙ sym (list_station at p l)
    go (inr l) = list_head at' p l ∙ sym (list_head at p l)

module _ (due due' : ℕ → ℕ) (p : ℕ) (h : p < 256 → due' p ≡ due p) where
  pub rank_same : rank_of due' p ≡ rank_of due p
  rank_same = go (lt_or p 256)
    where
      go : (p < 256) ⊎ (256 ≤ p) → rank_of due' p ≡ rank_of due p
      go (inl l) = rank_station due' p l ∙ ap (λ (d : ℕ). d * 256 + p) (h l) ∙ sym (rank_station due p l)
      go (inr l) = rank_head due' p l ∙ sym (rank_head due p l)

  pub live_same : Live due p → Live due' p
  live_same k l z = k l (sym (h l) ∙ z)

-- a Back stays where neither the lists nor the due of the two change, and the link does not
pub back_same : (places : ℕ) (at at' due due' next next' : ℕ → ℕ) (p s : ℕ)
    → (p < 256 → at' p ≡ at p) → at' s ≡ at s → (p < 256 → due' p ≡ due p) → due' s ≡ due s → next' p ≡ next p → Back places at due next p s → Back places at' due' next' p s
back_same places at at' due due' next next' p s ap' as' hp hs hn b = record {
  within = b.within;
  live = live_same due due' p hp b.live;
  list = list_same at at' p ap' ∙ b.list ∙ sym as';
  next_is = hn ∙ b.next_is;
  below = rw (rank_same due due' p hp, rank_same due due' s (λ _. hs)) b.below;
}

-- the list of a station that is not registered counts for nothing
pub lists_at : (places : ℕ) (at at' due next prev : ℕ → ℕ) → ((x : ℕ) → x < 256 → (due x ≡ 0 → ⊥) → at' x ≡ at x) → Lists places at due next prev
    → Lists places at' due next prev
lists_at places at at' due next prev h L = record {
  back = λ s l r.
      let B = L.back s l r in
      back_same places at at' due due next next (prev s) s (λ k. h (prev s) k (B.live k)) (h s l r) (λ _. refl) refl refl B;
  front = L.front;
}

-- no place comes before itself
pub not_same : {places : ℕ} {at due next : ℕ → ℕ} {p s : ℕ} → Back places at due next p s → p ≡ s → ⊥
not_same {due = due} {s = s} b e = lt_irrefl (rank_of due s) (subst (λ (x : ℕ). rank_of due x < rank_of due s) e b.below)
