-- A station is taken out of its list: the place before it is joined with the station after it, and the lists stay linked.
use mathlib.Core.Path.{◌≡◌, refl, sym, ap, ◌∙◌, subst}
use mathlib.Core.Logic.{◌⊎◌, inl, inr}
use Prim.Native.Nat.{ℕ, suc, ◌≤◌, ◌<◌}
use native.Mathlib.Omega.{arith}
use Rattle.calendar_cells.specs.Lists.{Live, list_of, rank_of, Back, Front, Lists}
use Rattle.words.proofs.Cases.{eq_or}
use Rattle.calendar_cells.proofs.Places.{list_station, rank_same, live_same, back_same, not_same}

module _
    (places : ℕ) (wide : 256 ≤ places) (at due next prev due' next' prev' : ℕ → ℕ) (s : ℕ) (ls : s < 256) (rs : due s ≡ 0 → ⊥)
    (due-s : due' s ≡ 0) (due-o : (x : ℕ) → x < 256 → (x ≡ s → ⊥) → due' x ≡ due x)
    (next-p : next' (prev s) ≡ next s) (next-o : (q : ℕ) → q < places → (q ≡ prev s → ⊥) → next' q ≡ next q)
    (prev-n : (m : ℕ) → m < 256 → next s ≡ suc m → prev' m ≡ prev s) (prev-o : (m : ℕ) → m < 256 → (next s ≡ suc m → ⊥) → prev' m ≡ prev m)
    (L : Lists places at due next prev)
  where
    out_s : Back places at due next (prev s) s
    out_s = L.back s ls rs

    out_live : (x : ℕ) → x < 256 → (due' x ≡ 0 → ⊥) → (x ≡ s → ⊥) × (due x ≡ 0 → ⊥)
    out_live x l r =
        let ne : x ≡ s → ⊥ = λ e. r (ap due' e ∙ due-s) in
        (ne, λ z. r (due-o x l ne ∙ z))

    out_front : (m : ℕ) → next s ≡ suc m → Front due prev s m
    out_front m e = L.front s (omega arith) (λ _. rs) m e

    out_back : (x : ℕ) → x < 256 → (due' x ≡ 0 → ⊥) → Back places at due' next' (prev' x) x
    out_back x l r = go (eq_or (next s) (suc x))
      where
        ne : x ≡ s → ⊥
        ne = (out_live x l r).0

        B : Back places at due next (prev x) x
        B = L.back x l (out_live x l r).1

        go : (next s ≡ suc x) ⊎ (next s ≡ suc x → ⊥) → Back places at due' next' (prev' x) x
        go (inl e) =
            let px : prev x ≡ s = (out_front x e).prev_is in
            let dp : prev s < 256 → due' (prev s) ≡ due (prev s) = λ h. due-o (prev s) h (not_same out_s) in
            let dx : due' x ≡ due x = due-o x l ne in
            let bs : rank_of due s < rank_of due x = subst (λ (q : ℕ). rank_of due q < rank_of due x) px B.below in
            subst (λ (q : ℕ). Back places at due' next' q x) (sym (prev-n x l e))
            record {
              within = out_s.within;
              live = live_same due due' (prev s) dp out_s.live;
              list = out_s.list ∙ sym (list_station at s ls) ∙ ap (list_of at) (sym px) ∙ B.list;
              next_is = next-p ∙ e;
              below = rw (rank_same due due' (prev s) dp, rank_same due due' x (λ _. dx)) (omega (arith, out_s.below, bs));
            }
        go (inr n) =
            let qs : prev x ≡ s → ⊥ = λ e. n (ap next (sym e) ∙ B.next_is) in
            let qp : prev x ≡ prev s → ⊥ = λ e. ne (suc_inj (sym B.next_is ∙ ap next e ∙ out_s.next_is)) in
            subst (λ (q : ℕ). Back places at due' next' q x) (sym (prev-o x l n))
            (back_same places at at due due' next next' (prev x) x (λ _. refl) refl (λ h. due-o (prev x) h qs) (due-o x l ne) (next-o (prev x) B.within qp) B)
          where
            suc_inj : {a b : ℕ} → suc a ≡ suc b → a ≡ b
            suc_inj e = omega arith

    out_front' : (p : ℕ) → p < places → Live due' p → (m : ℕ) → next' p ≡ suc m → Front due' prev' p m
    out_front' p l r m e = go (eq_or p (prev s))
      where
        go : (p ≡ prev s) ⊎ (p ≡ prev s → ⊥) → Front due' prev' p m
        go (inl q) =
            let ns : next s ≡ suc m = sym next-p ∙ ap next' (sym q) ∙ e in
            let F : Front due prev s m = out_front m ns in
            let ne : m ≡ s → ⊥ = λ z. not_same (L.back m F.station F.live) (F.prev_is ∙ sym z) in
            record { station = F.station; live = λ z. F.live (sym (due-o m F.station ne) ∙ z); prev_is = prev-n m F.station ns ∙ sym q }
        go (inr n) =
            let ps : p ≡ s → ⊥ = λ z. r (subst (λ (k : ℕ). k < 256) (sym z) ls) (ap due' z ∙ due-s) in
            let F : Front due prev p m = L.front p l (λ h z. r h (due-o p h ps ∙ z)) m (sym (next-o p l n) ∙ e) in
            let ne : m ≡ s → ⊥ = λ z. n (sym F.prev_is ∙ ap prev z) in
            let nn : next s ≡ suc m → ⊥ = λ z. ps (sym F.prev_is ∙ (out_front m z).prev_is) in
            record { station = F.station; live = λ z. F.live (sym (due-o m F.station ne) ∙ z); prev_is = prev-o m F.station nn ∙ F.prev_is }

    pub lists_out : Lists places at due' next' prev'
    lists_out = record { back = out_back; front = out_front' }
