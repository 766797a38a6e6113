-- The head of a bucket leads to its least station, and a bucket has a head exactly when a station stands in it.
use mathlib.Core.Path.{◌≡◌, sym, ap, ◌∙◌, subst}
use mathlib.Core.List.{List}
use Prim.Native.Nat.{ℕ, suc, ◌+◌, ◌-◌, ◌*◌, ◌≤◌, ◌<◌}
use native.Mathlib.Omega.{arith}
use Rattle.calendar_cells.specs.Lists.{rank_of}
use Rattle.calendar_cells.specs.Table.{due_of, bucket_of, next_place, prev_place, bucket_head, Due, Table}
use Rattle.calendar_cells.specs.Table.{Waits}
use Rattle.calendar_cells.proofs.ListHead.{head_least, head_list}

module _ (a : ℕ) (xs : List ℕ) (T : Table a xs) where
  -- what a head leads to
  pub head_station : (l h : ℕ) → l < 16 * (a * a) + 256 → bucket_head xs l ≡ suc h → (h < 256) × (Due xs h) × (bucket_of xs h ≡ l)
  head_station l h ll e = head_list (512 + 16 * (a * a)) (bucket_of xs) (due_of xs) (next_place xs) (prev_place xs) T.lists l h (omega arith) e

  -- the bucket of a registered station has a head, which is not above it
  pub head_below : (x : ℕ) → x < 256 → Due xs x → (h : ℕ) × (bucket_head xs (bucket_of xs x) ≡ suc h) × (rank_of (due_of xs) h ≤ rank_of (due_of xs) x)
  head_below x lx r = head_least (512 + 16 * (a * a)) (bucket_of xs) (due_of xs) (next_place xs) (prev_place xs) T.lists x lx r

  pub head_some : (x : ℕ) → x < 256 → Due xs x → bucket_head xs (bucket_of xs x) ≡ 0 → ⊥
  head_some x lx r z = let H = head_below x lx r in let e : suc H.0 ≡ 0 = sym H.1 ∙ z in omega arith

  -- no head is beyond the stations
  pub head_within : (l r : ℕ) → l < 16 * (a * a) + 256 → r ≡ bucket_head xs l → 256 < r → ⊥
  head_within l r ll e h =
      let q : bucket_head xs l ≡ suc (r - 1) = sym e ∙ omega arith in
      omega (arith, (head_station l (r - 1) ll q).0)

  -- ---- the overflow table

  pub waits_head : (x : ℕ) → x < 256 → Waits a xs x → bucket_head xs (16 * (a * a) + x) ≡ 0 → ⊥
  waits_head x lx w z = head_some x lx w.0 (ap (bucket_head xs) w.1 ∙ z)

  pub head_waits : (x : ℕ) → x < 256 → (bucket_head xs (16 * (a * a) + x) ≡ 0 → ⊥) → Waits a xs x
  head_waits x lx ne =
      let e : bucket_head xs (16 * (a * a) + x) ≡ suc (bucket_head xs (16 * (a * a) + x) - 1) = omega arith in
      let S = head_station (16 * (a * a) + x) (bucket_head xs (16 * (a * a) + x) - 1) (omega arith) e in
      let o : bucket_of xs (bucket_head xs (16 * (a * a) + x) - 1) ≡ 16 * (a * a) + (bucket_head xs (16 * (a * a) + x) - 1) = T.own (bucket_head xs (16 * (a * a) + x) - 1) S.0 S.1 (omega (arith, S.2)) in
      let q : bucket_head xs (16 * (a * a) + x) - 1 ≡ x = omega (arith, S.2) in
      subst (λ (y : ℕ). Waits a xs y) q (S.1, o)
