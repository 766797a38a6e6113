-- Where a station stands by its time: in a leaf while the ring covers it, in the overflow table after that.
use mathlib.Core.Path.{◌≡◌, ap, ◌∙◌, subst}
use mathlib.Core.Logic.{◌⊎◌, inl, inr}
use mathlib.Core.List.{List}
use Prim.Native.Nat.{ℕ, ◌+◌, ◌-◌, ◌*◌, ◌≤◌, ◌<◌}
use native.Mathlib.Nat.{le_refl}
use native.Mathlib.Omega.{arith}
use lib.ListN.{length}
use Rattle.calendar_cells.specs.Table.{due_of, bucket_of, Due}
use Rattle.calendar_buckets.specs.Promises.{bucket_for}
use Rattle.calendar_cells.proofs.TableLaws.{table_sizes}
use Rattle.words.proofs.Cases.{lt_or}
use Rattle.calendar_ring.specs.Ring.{leaf_for}
use Rattle.calendar_header.specs.Bytes.{width_of, limit_of, SoundAt, Sound}
use Rattle.calendar_header.proofs.Leaves.{ring_leaf, leaf_in_lem, leaf_over, leaf_most, bucket_leaf, bucket_own}

-- ---- the bucket of a time

module _ (a w end t x : ℕ) where
  -- a time of the ring has its leaf
  pub home_in : 0 < a → t < end → bucket_for a (leaf_for a w end t) x ≡ ring_leaf a w t
  home_in p h = ap (λ (l : ℕ). bucket_for a l x) (leaf_in_lem a w end t h) ∙ bucket_leaf a (ring_leaf a w t) x (leaf_most a w t p)

  -- a time after it waits
  pub home_over : end ≤ t → bucket_for a (leaf_for a w end t) x ≡ 16 * (a * a) + x
  home_over h = ap (λ (l : ℕ). bucket_for a l x) (leaf_over a w end t h) ∙ bucket_own a (16 * (a * a)) x (le_refl (16 * (a * a)))

-- ---- the stations

-- the arity is the one that the bytes say
pub sound_of : {a : ℕ} {xs : List ℕ} → SoundAt a xs → Sound xs
sound_of {xs = xs} S = subst (λ (m : ℕ). SoundAt m xs) S.table.arity_is S

module _ {a : ℕ} (xs : List ℕ) (S : SoundAt a xs) where
  pub arity_pos : 0 < a
  arity_pos = omega (arith, (table_sizes S.table).low)

  -- the header's words are within the bytes
  pub sound_long : 64 ≤ length xs
  sound_long = omega (arith, S.long, (table_sizes S.table).low, (table_sizes S.table).square)

  -- a station in a leaf has a time of the ring
  pub in_ring : (x : ℕ) → x < 256 → Due xs x → bucket_of xs x < 16 * (a * a)
      → (due_of xs x - 1 < limit_of xs) × (bucket_of xs x ≡ ring_leaf a (width_of xs) (due_of xs x - 1))
  in_ring x l r b = go (lt_or (due_of xs x - 1) (limit_of xs))
    where
      go : (due_of xs x - 1 < limit_of xs) ⊎ (limit_of xs ≤ due_of xs x - 1)
          → (due_of xs x - 1 < limit_of xs) × (bucket_of xs x ≡ ring_leaf a (width_of xs) (due_of xs x - 1))
      go (inl q) = (q, S.homes x l r ∙ home_in a (width_of xs) (limit_of xs) (due_of xs x - 1) x arity_pos q)
      go (inr q) =
          let e : bucket_of xs x ≡ 16 * (a * a) + x = S.homes x l r ∙ home_over a (width_of xs) (limit_of xs) (due_of xs x - 1) x q in
          absurd (omega arith)

  -- a station in the overflow table has a time after it
  pub over_ring : (x : ℕ) → x < 256 → Due xs x → 16 * (a * a) ≤ bucket_of xs x → limit_of xs ≤ due_of xs x - 1
  over_ring x l r b = go (lt_or (due_of xs x - 1) (limit_of xs))
    where
      go : (due_of xs x - 1 < limit_of xs) ⊎ (limit_of xs ≤ due_of xs x - 1) → limit_of xs ≤ due_of xs x - 1
      go (inl q) =
          let e : bucket_of xs x ≡ ring_leaf a (width_of xs) (due_of xs x - 1) =
          S.homes x l r ∙ home_in a (width_of xs) (limit_of xs) (due_of xs x - 1) x arity_pos q in
          absurd (omega (arith, leaf_most a (width_of xs) (due_of xs x - 1) arity_pos))
      go (inr q) = q
