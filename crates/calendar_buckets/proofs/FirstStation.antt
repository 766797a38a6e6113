-- The first station of the first leaf.
use mathlib.Core.Path.{◌≡◌, sym, ap, ◌∙◌, subst}
use mathlib.Core.Logic.{◌⊎◌, inl, inr}
use mathlib.Core.List.{List}
use Rattle.std.specs.Prelude.{Option, Some, None, MatchOption}
use Prim.Native.Nat.{ℕ, ◌+◌, ◌*◌, ◌/◌, ◌%◌, ◌≤◌, ◌<◌}
use native.Mathlib.Nat.{mul-pos, div-add-mod', div-lt_iff_lt-mul}
use native.Mathlib.Omega.{arith}
use Rattle.words.proofs.Cases.{eq_or, lt_or}
use Rattle.calendar_cells.specs.Table.{bucket_of, Due, Table}
use Rattle.calendar_search.specs.Promises.{blocks_to, Before, LeafFound, FirstLeaf}
use Rattle.calendar_buckets.specs.Promises.{NotAfter, First}
use Rattle.calendar_lists.specs.Promises.{Heads, HeadOf}
use Rattle.calendar_cells.proofs.Heads.{head_some}
use Rattle.calendar_cells.proofs.TableLaws.{table_sizes}

pub match_weaker : {X : Type 0} (o : Option X) {P P' : Type 0} {Q Q' : X → Type 0} → MatchOption o P Q → (P → P') → ((x : X) → Q x → Q' x)
    → MatchOption o P' Q'
match_weaker None h f g = f h
match_weaker (Some x) h f g = g x h

module _ (a : ℕ) (xs : List ℕ) (T : Table a xs) where
  pa' : 0 < a
  pa' = omega (arith, (table_sizes T).low)

  -- leaves of one block at one place are one leaf
  same_leaf : (slot k l : ℕ) → slot < 16 → k < 16 * (a * a) → l < 16 * (a * a) → blocks_to a slot k ≡ blocks_to a slot l → k % (a * a) ≡ l % (a * a) → k ≡ l
  same_leaf slot k l ls lk ll e m =
      let paa : 0 < a * a = mul-pos pa' pa' in
      let bk : k / (a * a) < 16 = (div-lt_iff_lt-mul paa).1 lk in
      let bl : l / (a * a) < 16 = (div-lt_iff_lt-mul paa).1 ll in
      let q : k / (a * a) ≡ l / (a * a) = omega arith in
      sym (div-add-mod' k (a * a)) ∙ ap (λ (u : ℕ). u * (a * a) + k % (a * a)) q ∙ ap (λ (u : ℕ). l / (a * a) * (a * a) + u) m ∙ div-add-mod' l (a * a)

  first_none : (slot words : ℕ) → FirstLeaf a xs slot None words → First a xs slot None words
  first_none slot words F = (λ x lx d. go x lx d (lt_or (bucket_of xs x) (16 * (a * a))), F.1)
    where
      go : (x : ℕ) → x < 256 → Due xs x → (bucket_of xs x < 16 * (a * a)) ⊎ (16 * (a * a) ≤ bucket_of xs x) → 16 * (a * a) ≤ bucket_of xs x
      go x lx d (inl b) = absurd (head_some a xs T x lx d (F.0 (bucket_of xs x) b))
      go x lx d (inr b) = b

  first_some : (slot l h words : ℕ) → slot < 16 → LeafFound a xs slot l words → Heads xs l h → First a xs slot (Some h) words
  first_some slot l h words ls F H = record {
    station = H.station.0;
    due = H.station.1;
    leaf = rw H.station.2 F.within;
    first = λ x lx d b. go x lx d b (eq_or (bucket_of xs x) l);
    read = F.read ∙ ap (λ (y : ℕ). blocks_to a slot y + 2) (sym H.station.2);
  }
    where
      before : (k : ℕ) → k < 16 * (a * a) → (k ≡ l → ⊥)
          → (blocks_to a slot l < blocks_to a slot k) ⊎ ((blocks_to a slot l ≡ blocks_to a slot k) × (l % (a * a) ≤ k % (a * a))) → Before a slot l k
      before k lk n (inl b) = inl b
      before k lk n (inr b) = inr (b.0, strict (l % (a * a)) (k % (a * a)) b.1 (λ z. n (sym (same_leaf slot l k ls F.within lk b.0 z))))
        where
          strict : (u v : ℕ) → u ≤ v → (u ≡ v → ⊥) → u < v
          strict u v h ne = omega arith

      go : (x : ℕ) → x < 256 → Due xs x → bucket_of xs x < 16 * (a * a) → (bucket_of xs x ≡ l) ⊎ (bucket_of xs x ≡ l → ⊥) → NotAfter a xs slot h x
      go x lx d b (inl q) = inr (H.station.2 ∙ sym q, H.least x lx d q)
      go x lx d b (inr n) =
          inl (subst (λ (y : ℕ). Before a slot y (bucket_of xs x)) (sym H.station.2)
          (before (bucket_of xs x) b n (F.first (bucket_of xs x) b (head_some a xs T x lx d))))

  -- the head of what the search of the leaves found, if it found one
  pub first_head : (slot words : ℕ) (l r : Option ℕ) → slot < 16 → FirstLeaf a xs slot l words
      → MatchOption l (r ≡ None) (λ k. k < 65792 → k < 16 * (a * a) + 256 → HeadOf xs k r) → First a xs slot r words
  first_head slot words None r ls F H = rw H (first_none slot words F)
  first_head slot words (Some l) r ls F H = go r (H (omega (arith, F.within, (table_sizes T).most)) (omega (arith, F.within)))
    where
      go : (o : Option ℕ) → HeadOf xs l o → First a xs slot o words
      go None e = absurd (F.filled e)
      go (Some h) e = first_some slot l h words ls F e
