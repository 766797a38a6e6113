-- A station is put in right after a place p, where its rank belongs, and the lists stay linked.
use mathlib.Core.Path.{◌≡◌, sym, ap, ◌∙◌, subst}
use mathlib.Core.Logic.{◌⊎◌, inl, inr}
use Prim.Native.Nat.{ℕ, suc, ◌+◌, ◌*◌, ◌≤◌, ◌<◌}
use native.Mathlib.Omega.{arith}
use Rattle.calendar_cells.specs.Lists.{Live, list_of, rank_of, Back, Front, Lists}
use Rattle.words.proofs.Cases.{eq_or}
use Rattle.calendar_cells.proofs.Places.{list_station, rank_station, rank_same, list_same, live_same, back_same}

module _
    (places : ℕ) (wide : 256 ≤ places) (at due next prev at' due' next' prev' : ℕ → ℕ) (s d p l : ℕ) (ls : s < 256) (rs : due s ≡ 0) (rd : d ≡ 0 → ⊥)
    (lp : p < places) (live_p : Live due p) (list-p : list_of at p ≡ l) (rank-p : rank_of due p < d * 256 + s)
    (beyond : (m : ℕ) → next p ≡ suc m → d * 256 + s ≤ rank_of due m)
    (at-s : at' s ≡ l) (at-o : (x : ℕ) → x < 256 → (x ≡ s → ⊥) → at' x ≡ at x)
    (due-s : due' s ≡ d) (due-o : (x : ℕ) → x < 256 → (x ≡ s → ⊥) → due' x ≡ due x)
    (next-s : next' s ≡ next p) (next-p : next' p ≡ suc s) (next-o : (q : ℕ) → q < places → (q ≡ s → ⊥) → (q ≡ p → ⊥) → next' q ≡ next q)
    (prev-s : prev' s ≡ p) (prev-n : (m : ℕ) → m < 256 → next p ≡ suc m → prev' m ≡ s)
    (prev-o : (m : ℕ) → m < 256 → (m ≡ s → ⊥) → (next p ≡ suc m → ⊥) → prev' m ≡ prev m)
    (L : Lists places at due next prev)
  where
    -- a place that was there before is not s
    in_other : (q : ℕ) → Live due q → q ≡ s → ⊥
    in_other q r e = r (subst (λ (k : ℕ). k < 256) (sym e) ls) (ap due e ∙ rs)

    in_due : (q : ℕ) → Live due q → q < 256 → due' q ≡ due q
    in_due q r k = due-o q k (in_other q r)

    in_front : (m : ℕ) → next p ≡ suc m → Front due prev p m
    in_front m e = L.front p lp live_p m e

    in_back : (x : ℕ) → x < 256 → (due' x ≡ 0 → ⊥) → Back places at' due' next' (prev' x) x
    in_back x l' r = go (eq_or x s)
      where
        old : (x ≡ s → ⊥) → (next p ≡ suc x) ⊎ (next p ≡ suc x → ⊥) → Back places at' due' next' (prev' x) x
        old ne (inl e) =
            let dx : due' x ≡ due x = due-o x l' ne in
            let B : Back places at due next (prev x) x = L.back x l' (λ z. r (dx ∙ z)) in
            let px : prev x ≡ p = (in_front x e).prev_is in
            let ks : rank_of due' s ≡ d * 256 + s = rank_station due' s ls ∙ ap (λ (k : ℕ). k * 256 + s) due-s in
            let kx : rank_of due x ≡ due x * 256 + x = rank_station due x l' in
            subst (λ (q : ℕ). Back places at' due' next' q x) (sym (prev-n x l' e))
            record {
              within = omega arith;
              live = λ _ z. rd (sym due-s ∙ z);
              list = list_station at' s ls ∙ at-s ∙ sym list-p ∙ ap (list_of at) (sym px) ∙ B.list ∙ sym (at-o x l' ne);
              next_is = next-s ∙ e;
              below = rw (ks, rank_same due due' x (λ _. dx)) (omega (arith, beyond x e, kx));
            }
        old ne (inr n) =
            let dx : due' x ≡ due x = due-o x l' ne in
            let B : Back places at due next (prev x) x = L.back x l' (λ z. r (dx ∙ z)) in
            subst (λ (q : ℕ). Back places at' due' next' q x) (sym (prev-o x l' ne n))
            (back_same places at at' due due' next next' (prev x) x (λ h. at-o (prev x) h (in_other (prev x) B.live)) (at-o x l' ne) (in_due (prev x) B.live) dx
            (next-o (prev x) B.within (in_other (prev x) B.live) (λ e. n (ap next (sym e) ∙ B.next_is))) B)

        go : (x ≡ s) ⊎ (x ≡ s → ⊥) → Back places at' due' next' (prev' x) x
        go (inl e) =
            let ks : rank_of due' s ≡ d * 256 + s = rank_station due' s ls ∙ ap (λ (k : ℕ). k * 256 + s) due-s in
            subst (λ (y : ℕ). Back places at' due' next' (prev' y) y) (sym e)
            (subst (λ (q : ℕ). Back places at' due' next' q s) (sym prev-s)
            record {
              within = lp;
              live = live_same due due' p (in_due p live_p) live_p;
              list = list_same at at' p (λ h. at-o p h (in_other p live_p)) ∙ list-p ∙ sym at-s;
              next_is = next-p;
              below = rw (ks, rank_same due due' p (in_due p live_p)) rank-p;
            })
        go (inr ne) = old ne (eq_or (next p) (suc x))

    in_live : (q : ℕ) → (q ≡ s → ⊥) → Live due' q → Live due q
    in_live q ne r k z = r k (due-o q k ne ∙ z)

    in_front' : (q : ℕ) → q < places → Live due' q → (m : ℕ) → next' q ≡ suc m → Front due' prev' q m
    in_front' q lq r m e = go (eq_or q s) (eq_or q p)
      where
        -- the station m, which was there before, with its due as it was
        kept : {k : ℕ} → Front due prev k m → due' m ≡ due m
        kept F = due-o m F.station (in_other m (λ _. F.live))

        go : (q ≡ s) ⊎ (q ≡ s → ⊥) → (q ≡ p) ⊎ (q ≡ p → ⊥) → Front due' prev' q m
        go (inl a) b =
            let ne : next p ≡ suc m = sym next-s ∙ ap next' (sym a) ∙ e in
            let F : Front due prev p m = in_front m ne in
            record { station = F.station; live = λ z. F.live (sym (kept F) ∙ z); prev_is = prev-n m F.station ne ∙ sym a }
        go (inr a) (inl b) =
            let ms : m ≡ s = let h : suc s ≡ suc m = sym next-p ∙ ap next' (sym b) ∙ e in omega arith in
            record {
              station = subst (λ (k : ℕ). k < 256) (sym ms) ls;
              live = λ z. rd (sym due-s ∙ ap due' (sym ms) ∙ z);
              prev_is = ap prev' ms ∙ prev-s ∙ sym b;
            }
        go (inr a) (inr b) =
            let F : Front due prev q m = L.front q lq (in_live q a r) m (sym (next-o q lq a b) ∙ e) in
            record {
              station = F.station;
              live = λ z. F.live (sym (kept F) ∙ z);
              prev_is = prev-o m F.station (in_other m (λ _. F.live)) (λ z. b (sym F.prev_is ∙ (in_front m z).prev_is)) ∙ F.prev_is;
            }

    pub lists_in : Lists places at' due' next' prev'
    lists_in = record { back = in_back; front = in_front' }
