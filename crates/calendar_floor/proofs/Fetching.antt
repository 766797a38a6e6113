-- Stations of the overflow table that the ring covers go to their leaves, one after the other; then the calendar is sound again.
use mathlib.Core.Path.{◌≡◌, refl, sym, ap, ◌∙◌, subst}
use mathlib.Core.Logic.{◌⊎◌, inl, inr}
use mathlib.Core.List.{List}
use Rattle.std.specs.Prelude.{Some, None}
use Prim.Native.Nat.{ℕ, suc, ◌+◌, ◌-◌, ◌*◌, ◌≤◌, ◌<◌}
use native.Mathlib.Omega.{arith}
use Rattle.calendar_cells.specs.Table.{arity_of, due_of, bucket_of, Due, Table, Waits}
use Rattle.calendar_buckets.specs.Promises.{bucket_for, Kept, Placed}
use Rattle.calendar_search.specs.Promises.{NoneTo, Later}
use Rattle.calendar_buckets.proofs.Takes.{kept_same}
use Rattle.words.proofs.Cases.{eq_or, lt_or}
use Rattle.calendar_ring.specs.Ring.{leaf_for}
use Rattle.calendar_header.specs.Bytes.{width_of, floor_of, limit_of, home_of}
use Rattle.calendar_floor.specs.Steps.{Settling, Same, Moved, Settled}
use Rattle.calendar_header.proofs.Leaves.{bucket_own}
use Rattle.calendar_header.proofs.Kept.{kept_header, kept_home}

-- ---- nothing changed but buckets

pub same_self : (xs : List ℕ) → Same xs xs
same_self xs = record { kept = kept_same xs; dues = λ x l. refl }

same_then : {xs ys zs : List ℕ} → Same xs ys → Same ys zs → Same xs zs
same_then A B = record {
  kept = record { size = B.kept.size ∙ A.kept.size; words = λ i l. B.kept.words i l ∙ A.kept.words i l };
  dues = λ x l. B.dues x l ∙ A.dues x l;
}

-- a station that may still wait does so from another number on
settling_from : (a from k : ℕ) (xs : List ℕ) → ((x : ℕ) → x < 256 → Waits a xs x → from ≤ x → (bucket_of xs x ≡ home_of a xs x) ⊎ (k ≤ x))
    → Settling a from xs → Settling a k xs
settling_from a from k xs h S = record {
  long = S.long;
  header = S.header;
  table = S.table;
  absent = S.absent;
  since = S.since;
  homes = λ x l r. go x l r (S.homes x l r);
}
  where
    go : (x : ℕ) → x < 256 → Due xs x → (bucket_of xs x ≡ home_of a xs x) ⊎ ((bucket_of xs x ≡ 16 * (a * a) + x) × (from ≤ x))
        → (bucket_of xs x ≡ home_of a xs x) ⊎ ((bucket_of xs x ≡ 16 * (a * a) + x) × (k ≤ x))
    go x l r (inl e) = inl e
    go x l r (inr e) = side (h x l (r, e.0) e.1)
      where
        side : (bucket_of xs x ≡ home_of a xs x) ⊎ (k ≤ x) → (bucket_of xs x ≡ home_of a xs x) ⊎ ((bucket_of xs x ≡ 16 * (a * a) + x) × (k ≤ x))
        side (inl q) = inl q
        side (inr q) = inr (e.0, q)

-- none waits before the one that is found
skipped : (a from s : ℕ) (xs : List ℕ) → NoneTo a xs from s → Settling a from xs → Settling a s xs
skipped a from s xs L = settling_from a from s xs (λ x l W h. go x l W h (lt_or x s))
  where
    go : (x : ℕ) → x < 256 → Waits a xs x → from ≤ x → (x < s) ⊎ (s ≤ x) → (bucket_of xs x ≡ home_of a xs x) ⊎ (s ≤ x)
    go x l W h (inl k) = absurd (L x h l k W)
    go x l W h (inr k) = inr k

-- ---- fetch

module _ (a : ℕ) (xs : List ℕ) (s d l : ℕ) (ls : s < 256) (S : Settling a s xs) (W : Waits a xs s) (ed : d ≡ due_of xs s) where
  pub not_absent : d ≡ 0 → ⊥
  not_absent z = W.0 (sym ed ∙ z)

  pub fetch_floor : floor_of xs ≤ d - 1
  fetch_floor = omega (arith, S.since s ls W.0)

  module _ (el : l ≡ leaf_for a (width_of xs) (limit_of xs) (d - 1)) where
    home_is : bucket_for a l s ≡ home_of a xs s
    home_is = ap (λ (y : ℕ). bucket_for a y s) (el ∙ ap (λ (y : ℕ). leaf_for a (width_of xs) (limit_of xs) (y - 1)) ed)

    -- the ring does not cover its time yet
    pub moved_none : (n : ℕ) → n ≡ arity_of xs * arity_of xs → 16 * n ≤ l → Moved a s xs xs
    moved_none n en g = record { same = same_self xs; settling = settling_from a s (suc s) xs (λ x lx Wx k. go x (eq_or x s) k) S }
      where
        h : 16 * (a * a) ≤ l
        h = omega (arith, g, en ∙ sym (ap (λ (y : ℕ). y * y) S.table.arity_is))

        go : (x : ℕ) → (x ≡ s) ⊎ (x ≡ s → ⊥) → s ≤ x → (bucket_of xs x ≡ home_of a xs x) ⊎ (suc s ≤ x)
        go x (inl e) k = inl (subst (λ (y : ℕ). bucket_of xs y ≡ home_of a xs y) (sym e) (W.1 ∙ sym (bucket_own a l s h) ∙ home_is))
        go x (inr e) k = inr (omega arith)

    -- it goes to its leaf
    module _ (ys : List ℕ) (K : Kept xs ys) (P : Placed a s d (bucket_for a l s) xs ys) where
      due_same : (x : ℕ) → x < 256 → (x ≡ s) ⊎ (x ≡ s → ⊥) → due_of ys x ≡ due_of xs x
      due_same x lx (inl e) = ap (due_of ys) e ∙ P.due_is ∙ ed ∙ ap (due_of xs) (sym e)
      due_same x lx (inr e) = P.changed.dues x lx e

      dues : (x : ℕ) → x < 256 → due_of ys x ≡ due_of xs x
      dues x lx = due_same x lx (eq_or x s)

      home_same : (x : ℕ) → x < 256 → home_of a xs x ≡ home_of a ys x
      home_same x lx = sym (kept_home a xs ys K (due_of ys x) x ∙ ap (λ (y : ℕ). bucket_for a (leaf_for a (width_of xs) (limit_of xs) (y - 1)) x) (dues x lx))

      home_of_lem : (x : ℕ) → x < 256 → Due ys x → (x ≡ s) ⊎ (x ≡ s → ⊥) → (bucket_of ys x ≡ home_of a ys x) ⊎ ((bucket_of ys x ≡ 16 * (a * a) + x) × (suc s ≤ x))
      home_of_lem x lx r (inl e) =
          inl (subst (λ (y : ℕ). bucket_of ys y ≡ home_of a ys y) (sym e) (P.bucket_is ∙ home_is ∙ home_same s ls))
      home_of_lem x lx r (inr e) = go (S.homes x lx (λ z. r (dues x lx ∙ z)))
        where
          go : (bucket_of xs x ≡ home_of a xs x) ⊎ ((bucket_of xs x ≡ 16 * (a * a) + x) × (s ≤ x))
              → (bucket_of ys x ≡ home_of a ys x) ⊎ ((bucket_of ys x ≡ 16 * (a * a) + x) × (suc s ≤ x))
          go (inl q) = inl (P.changed.buckets x lx e ∙ q ∙ home_same x lx)
          go (inr q) = inr (P.changed.buckets x lx e ∙ q.0, omega (arith, q.1))

      pub moved_put : Moved a s xs ys
      moved_put = record {
        same = record { kept = K; dues = dues };
        settling = record {
          long = rw K.size S.long;
          header = kept_header a xs ys K S.header;
          table = P.changed.table;
          absent = λ x lx h. dues x lx ∙ S.absent x lx (subst (λ (y : ℕ). y ≤ x) (K.words 6 (omega arith)) h);
          since = λ x lx r. rw (K.words 1 (omega arith), dues x lx) (S.since x lx (λ z. r (dues x lx ∙ z)));
          homes = λ x lx r. home_of_lem x lx r (eq_or x s);
        };
      }

-- ---- the loop

-- the stations below `from` stand where they belong
abbrev pub SettledTo : ℕ → ℕ → List ℕ → List ℕ → Type 0
SettledTo a from xs ys = Settling a 0 xs → Same xs ys × Settling a from ys

pub settle_start : (a : ℕ) (xs : List ℕ) → SettledTo a 0 xs xs
settle_start a xs S = (same_self xs, S)

pub settle_step : (a : ℕ) (xs ys zs : List ℕ) (from s : ℕ) → SettledTo a from xs ys → (Table a ys → Later a ys from (Some s))
    → (Settling a s ys → Waits a ys s → Moved a s ys zs) → SettledTo a (s + 1) xs zs
settle_step a xs ys zs from s W L M S =
    let w = W S in
    let l = L w.1.table in
    let m = M (skipped a from s ys l.2 w.1) l.1 in
    let e : suc s ≡ s + 1 = omega arith in
    (same_then w.0 m.same, subst (λ (k : ℕ). Settling a k zs) e m.settling)

settle_end : (a : ℕ) (xs ys : List ℕ) (from : ℕ) → SettledTo a from xs ys → 256 ≤ from → Settling a 0 xs → Settled a xs ys
settle_end a xs ys from W h S =
    let T = (W S).1 in
    record {
      same = (W S).0;
      sound = record {
        long = T.long;
        header = T.header;
        table = T.table;
        absent = T.absent;
        since = T.since;
        homes = λ x l r. go x l (T.homes x l r);
      };
    }
  where
    go : (x : ℕ) → x < 256 → (bucket_of ys x ≡ home_of a ys x) ⊎ ((bucket_of ys x ≡ 16 * (a * a) + x) × (from ≤ x)) → bucket_of ys x ≡ home_of a ys x
    go x l (inl e) = e
    go x l (inr e) = absurd (omega (arith, e.1))

pub settle_none : (a : ℕ) (xs ys : List ℕ) (from : ℕ) → SettledTo a from xs ys → (Table a ys → Later a ys from None) → Settling a 0 xs → Settled a xs ys
settle_none a xs ys from W L S = settle_end a xs ys 256 (λ S. ((W S).0, skipped a from 256 ys (L (W S).1.table) (W S).1)) (omega arith) S
