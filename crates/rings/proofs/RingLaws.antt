-- The operations on one ring in a table of bytes: x comes after the last of ys, x goes, s is alone; and a ring with none of the nodes is left.
use mathlib.Core.Path.{◌≡◌}
use mathlib.Core.List.{List, [], ◌∷◌, ◌++◌}
use Prim.Native.Nat.{ℕ, ◌+◌, ◌<◌, ◌≤◌}
use native.Mathlib.Omega.{arith}
use Rattle.rings.specs.Table.{next_of, prev_of, empty_at, link_after, unlinked}
use Rattle.rings.specs.Ring.{occurs, last_of, head_of, RingIn, Room}
use Rattle.rings.proofs.Counts.{hit_same, hit_ne, hit_le, unlike, occurs_append, occurs_head}
use Rattle.rings.proofs.Places.{below, next_at, prev_at, next_of_lem, last_in, head_in}
use Rattle.rings.proofs.Links.{Linked, Bridged, insert_links, unlink_links, empty_links}
use Rattle.rings.proofs.Changes.{ring_apart, inserted, removed}

module _ {t : List ℕ} {o n : ℕ} (T : Room t o n) {s : ℕ} (ys zs : List ℕ) (x : ℕ) where
  -- ---- x comes in after the last of ys
  module _ (R : RingIn t o n s (ys ++ zs)) (out : occurs x (s ∷ ys ++ zs) ≡ 0) (hx : x < n) where
    linked : Linked (next_of t o) (prev_of t o) (next_of (link_after t o n (last_of s ys) x) o) (prev_of (link_after t o n (last_of s ys) x) o)
        (last_of s ys) (head_of zs s) x
    linked =
        insert_links T (last_of s ys) (head_of zs s) x
        (below R (last_of s ys) (last_in ys zs R))
        (below R (head_of zs s) (head_in ys zs R))
        hx
        (next_at ys zs R)
        (unlike (s ∷ ys ++ zs) x _ out (last_in ys zs R))
        (unlike (s ∷ ys ++ zs) x _ out (head_in ys zs R))

    pub insert_ring : RingIn (link_after t o n (last_of s ys) x) o n s (ys ++ x ∷ zs)
    insert_ring = inserted ys zs x linked out hx R

    pub insert_other : {u : ℕ} {xs : List ℕ} → ((i : ℕ) → occurs i (s ∷ ys ++ zs) + occurs i (u ∷ xs) ≤ 1) → occurs x (u ∷ xs) ≡ 0
        → RingIn t o n u xs → RingIn (link_after t o n (last_of s ys) x) o n u xs
    insert_other d h R' =
        ring_apart linked.only
        (omega (arith, d (last_of s ys), last_in ys zs R))
        (omega (arith, d (head_of zs s), head_in ys zs R))
        h
        R'

  -- ---- x goes
  module _ (R : RingIn t o n s (ys ++ x ∷ zs)) where
    -- the node after x
    head_stays : 1 ≤ occurs (head_of zs s) (s ∷ ys ++ x ∷ zs)
    head_stays = omega (arith, occurs_head zs s, occurs_append (head_of zs s) ys (x ∷ zs))

    bridged : Bridged (next_of t o) (prev_of t o) (next_of (unlinked t o n x) o) (prev_of (unlinked t o n x) o) (last_of s ys) (head_of zs s) x
    bridged =
        unlink_links T (last_of s ys) (head_of zs s) x
        (below R (last_of s ys) (last_in ys (x ∷ zs) R))
        (below R (head_of zs s) head_stays)
        (prev_at ys (x ∷ zs) R)
        (next_of_lem ys x zs R)

    pub unlink_ring : RingIn (unlinked t o n x) o n s (ys ++ zs)
    unlink_ring = removed ys zs x bridged R

    pub unlink_other : {u : ℕ} {xs : List ℕ} → ((i : ℕ) → occurs i (s ∷ ys ++ x ∷ zs) + occurs i (u ∷ xs) ≤ 1)
        → RingIn t o n u xs → RingIn (unlinked t o n x) o n u xs
    unlink_other d R' =
        ring_apart bridged.only
        (omega (arith, d (last_of s ys), last_in ys (x ∷ zs) R))
        (omega (arith, d (head_of zs s), head_stays))
        (omega (arith, d x, hit_same x, occurs_append x ys (x ∷ zs)))
        R'

-- ---- s is alone

module _ {t : List ℕ} {o n : ℕ} (T : Room t o n) (s : ℕ) (hs : s < n) where
  pub empty_ring : RingIn (empty_at t o n s) o n s []
  empty_ring =
      record {
        run = ((empty_links T s hs).out_a, (empty_links T s hs).into_b, tt);
        once = λ i. omega (arith, hit_le i s);
        within = λ i h. omega (arith, hit_ne i s (omega arith));
      }

  pub empty_other : {u : ℕ} {xs : List ℕ} → occurs s (u ∷ xs) ≡ 0 → RingIn t o n u xs → RingIn (empty_at t o n s) o n u xs
  empty_other h R = ring_apart (empty_links T s hs).only h h h R
