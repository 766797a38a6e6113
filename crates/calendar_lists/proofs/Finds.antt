-- The walk of `find` along a list: every place on the way ranks below k, and it stops where the next does not.
use mathlib.Core.Path.{◌≡◌, sym, ap, ◌∙◌, subst}
use mathlib.Core.List.{List}
use Prim.Native.Nat.{ℕ, suc, ◌+◌, ◌-◌, ◌*◌, ◌≤◌, ◌<◌}
use native.Mathlib.Omega.{arith}
use Rattle.calendar_cells.specs.Lists.{Live, list_of, rank_of, Front}
use Rattle.calendar_cells.specs.Table.{due_of, bucket_of, next_place, prev_place}
use Rattle.calendar_lists.specs.Promises.{Chained, Place}
use Rattle.calendar_cells.proofs.Places.{list_station, list_head, rank_head}

-- what is known at a place on the way
abbrev pub Way : List ℕ → ℕ → ℕ → ℕ → ℕ → Type 0
Way xs list k p last =
    (a : ℕ) → list < 16 * (a * a) + 256 → 0 < k → Chained a xs
    → (p < 512 + 16 * (a * a)) × Live (due_of xs) p × (list_of (bucket_of xs) p ≡ list) × (rank_of (due_of xs) p < k) × (last ≡ rank_of (due_of xs) p)

abbrev pub Stops : List ℕ → ℕ → ℕ → ℕ → Type 0
Stops xs list k p = (a : ℕ) → list < 65792 → list < 16 * (a * a) + 256 → 0 < k → Chained a xs → Place a xs list k p

pub way_start : (xs : List ℕ) (list k : ℕ) → Way xs list k (256 + list) 0
way_start xs list k a l h C =
    let e : rank_of (due_of xs) (256 + list) ≡ 0 = rank_head (due_of xs) (256 + list) (omega arith) in
    (omega arith, (λ l. absurd (omega arith)), list_head (bucket_of xs) (256 + list) (omega arith) ∙ omega arith, omega arith, sym e)

-- what a link that is not 0 leads to
ahead : (xs : List ℕ) (a p n : ℕ) → Chained a xs → p < 512 + 16 * (a * a) → Live (due_of xs) p → n ≡ next_place xs p → (n ≡ 0 → ⊥) → Front (due_of xs) (prev_place xs) p (n - 1)
ahead xs a p n C l r e z = let e' : n ≡ suc (n - 1) = omega arith in C.front p l r (n - 1) (sym e ∙ e')

pub way_end : (xs : List ℕ) (list k p last n : ℕ) → Way xs list k p last → n ≡ next_place xs p → n ≡ 0 → Stops xs list k p
way_end xs list k p last n W e z a b l h C =
    let w = W a l h C in
    record { within = w.0; live = w.1; list_is = w.2; below = w.3; beyond = λ m q. absurd (omega arith) }

pub way_out : (xs : List ℕ) (list k p last n : ℕ) → Way xs list k p last → n ≡ next_place xs p → 256 < n → Stops xs list k p
way_out xs list k p last n W e z a b l h C =
    let w = W a l h C in
    absurd (omega (arith, (ahead xs a p n C w.0 w.1 e (omega arith)).station))

module _
    (xs : List ℕ) (list k p last n kn : ℕ) (W : Way xs list k p last) (e : n ≡ next_place xs p) (nz : n ≡ 0 → ⊥)
    (rank : kn ≡ rank_of (due_of xs) (n - 1))
  where
    pub way_bad : kn ≤ last → Stops xs list k p
    way_bad z a b l h C =
        let w = W a l h C in
        let F = ahead xs a p n C w.0 w.1 e nz in
        let u : rank_of (due_of xs) p < rank_of (due_of xs) (n - 1) =
        subst (λ (q : ℕ). rank_of (due_of xs) q < rank_of (due_of xs) (n - 1)) F.prev_is (C.back (n - 1) F.station F.live).below in
        absurd (omega (arith, w.4))

    pub way_here : k ≤ kn → Stops xs list k p
    way_here z a b l h C =
        let w = W a l h C in
        record {
          within = w.0;
          live = w.1;
          list_is = w.2;
          below = w.3;
          beyond = λ m q.
              let mm : n - 1 ≡ m = omega arith in
              subst (λ (y : ℕ). k ≤ rank_of (due_of xs) y) mm (subst (λ (y : ℕ). k ≤ y) rank z);
        }

    pub way_on : kn < k → Way xs list k (n - 1) kn
    way_on z a l h C =
        let w = W a l h C in
        let F = ahead xs a p n C w.0 w.1 e nz in
        let B = C.back (n - 1) F.station F.live in (
          omega (arith, F.station),
          (λ _. F.live),
          list_station (bucket_of xs) (n - 1) F.station ∙ sym B.list ∙ ap (list_of (bucket_of xs)) F.prev_is ∙ w.2,
          omega arith,
          rank,
        )
