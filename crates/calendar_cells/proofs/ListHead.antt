-- The first station of a list is the least in it: going back, the rank falls until the head is reached.
use mathlib.Core.Path.{◌≡◌, sym, ap, ◌∙◌}
use mathlib.Core.Logic.{◌⊎◌, inl, inr}
use Prim.Native.Nat.{ℕ, zero, suc, ◌+◌, ◌-◌, ◌≤◌, ◌<◌}
use native.Mathlib.Nat.{le_refl}
use native.Mathlib.Omega.{arith}
use Rattle.calendar_cells.specs.Lists.{list_of, rank_of, Back, Front, Lists}
use Rattle.words.proofs.Cases.{lt_or}
use Rattle.calendar_cells.proofs.Places.{list_station, list_head}

module _ (places : ℕ) (at due next prev : ℕ → ℕ) (L : Lists places at due next prev) where
  head_within : (k x : ℕ) → x < 256 → (due x ≡ 0 → ⊥) → rank_of due x < k → (h : ℕ) × (next (256 + at x) ≡ suc h) × (rank_of due h ≤ rank_of due x)
  head_within zero x l r f = absurd (omega arith)
  head_within (suc k) x l r f = go (lt_or (prev x) 256) (λ a b c. head_within k (prev x) a b c)
    where
      B : Back places at due next (prev x) x
      B = L.back x l r

      go : (prev x < 256) ⊎ (256 ≤ prev x)
          → (prev x < 256 → (due (prev x) ≡ 0 → ⊥) → rank_of due (prev x) < k → (h : ℕ) × (next (256 + at (prev x)) ≡ suc h) × (rank_of due h ≤ rank_of due (prev x)))
          → (h : ℕ) × (next (256 + at x) ≡ suc h) × (rank_of due h ≤ rank_of due x)
      go (inl a) ih =
          let t = ih a (B.live a) (omega (arith, B.below)) in
          let e : at (prev x) ≡ at x = sym (list_station at (prev x) a) ∙ B.list in
          (t.0, ap (λ (y : ℕ). next (256 + y)) (sym e) ∙ t.1, omega (arith, B.below, t.2))
      go (inr a) ih =
          let e : prev x - 256 ≡ at x = sym (list_head at (prev x) a) ∙ B.list in
          let e' : 256 + at x ≡ prev x = omega arith in
          (x, ap next e' ∙ B.next_is, le_refl (rank_of due x))

  -- of the list of a registered station x the head leads to a station h of the same list that is not above x
  pub head_least : (x : ℕ) → x < 256 → (due x ≡ 0 → ⊥) → (h : ℕ) × (next (256 + at x) ≡ suc h) × (rank_of due h ≤ rank_of due x)
  head_least x l r = head_within (suc (rank_of due x)) x l r (le_refl (suc (rank_of due x)))

  -- what a head leads to is a registered station of that list
  pub head_list : (l h : ℕ) → 256 + l < places → next (256 + l) ≡ suc h → (h < 256) × (due h ≡ 0 → ⊥) × (at h ≡ l)
  head_list l h w e =
      let F : Front due prev (256 + l) h = L.front (256 + l) w (λ z. absurd (omega arith)) h e in
      let B = L.back h F.station F.live in
      let q : list_of at (256 + l) ≡ at h = ap (list_of at) (sym F.prev_is) ∙ B.list in
      let e2 : list_of at (256 + l) ≡ (256 + l) - 256 = list_head at (256 + l) (omega arith) in
      (F.station, F.live, sym q ∙ e2 ∙ omega arith)
