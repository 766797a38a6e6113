-- A family of rings in one table: one ring gets a node or loses one, and the others stay; the family stays where other bytes change.
use mathlib.Core.Path.{◌≡◌, ap, sym, subst}
use mathlib.Core.Logic.{◌≢◌}
use mathlib.Core.List.{List, [], ◌∷◌, ◌++◌}
use Prim.Native.Nat.{ℕ, suc, ◌+◌, ◌*◌, ◌<◌, ◌≤◌}
use native.Mathlib.Decide.{ℕ_discrete}
use native.Mathlib.Omega.{arith}
use lib.ListN.{length}
use Rattle.rings.specs.Table.{next_of, prev_of, empty_at, link_after, unlinked, Outside, Frame}
use Rattle.rings.specs.Ring.{hit, occurs, last_of, in_rings, RingIn, Rings, Room}
use Rattle.rings.proofs.Confined.{empty_frame, insert_frame, unlink_frame}
use Rattle.rings.proofs.Stores.{next_elsewhere, prev_elsewhere, room_same}
use Rattle.rings.proofs.Counts.{hit_same, hit_ne, occurs_append}
use Rattle.words.proofs.Sums.{sum_one, sum_two, sum_same, sum_none, sum_change}
use Rattle.rings.proofs.Changes.{ring_same}
use Rattle.rings.proofs.RingLaws.{insert_ring, insert_other, unlink_ring, unlink_other, empty_ring, empty_other}

-- ---- a node in no ring

pub free_each : (m : ℕ) (R : ℕ → List ℕ) (x : ℕ) → in_rings m R x ≡ 0 → (u : ℕ) → u < m → occurs x (u ∷ R u) ≡ 0
free_each m R x e u h = omega (arith, sum_one m (λ s. occurs x (s ∷ R s)) u h)

pub free_all : (m : ℕ) (R : ℕ → List ℕ) (x : ℕ) → ((u : ℕ) → u < m → occurs x (u ∷ R u) ≡ 0) → in_rings m R x ≡ 0
free_all m R x h = sum_none m (λ s. occurs x (s ∷ R s)) h

-- a node of one ring is in no other
pub one_ring : {t : List ℕ} {o n m : ℕ} {R : ℕ → List ℕ} → Rings t o n m R → (s u : ℕ) → s < m → u < m → s ≢ u
    → (i : ℕ) → occurs i (s ∷ R s) + occurs i (u ∷ R u) ≤ 1
one_ring {m = m} {R = R} F s u hs hu d i = omega (arith, F.apart i, sum_two m (λ s. occurs i (s ∷ R s)) s u hs hu d)

-- ---- other bytes, other names

-- only the length and the links count
pub rings_same : {t : List ℕ} (t' : List ℕ) {o n m : ℕ} {R : ℕ → List ℕ} → length t' ≡ length t → ((u : ℕ) → u < n → next_of t' o u ≡ next_of t o u)
    → ((u : ℕ) → u < n → prev_of t' o u ≡ prev_of t o u) → Rings t o n m R → Rings t' o n m R
rings_same t' l nexts prevs F =
    record {
      room = record { fits = rw l F.room.fits; few = F.room.few };
      ring = λ s h. ring_same nexts prevs (F.ring s h);
      apart = F.apart;
    }

-- the k bytes from i, which alone changed, lie outside the table
pub rings_elsewhere : {t t' : List ℕ} {i k o n m : ℕ} {R : ℕ → List ℕ} → Frame i k t t' → Outside i k o (4 * n) → Rings t o n m R → Rings t' o n m R
rings_elsewhere {t' = t'} {o = o} {n = n} C out F = rings_same t' C.size (next_elsewhere C o n out) (prev_elsewhere C o n out) F

pub rings_renamed : {t : List ℕ} {o n m : ℕ} {R : ℕ → List ℕ} (R' : ℕ → List ℕ) → ((u : ℕ) → u < m → R' u ≡ R u)
    → Rings t o n m R → Rings t o n m R'
rings_renamed {m = m} {R = R} R' same F =
    record {
      room = F.room;
      ring = λ s h. rw (same s h) (F.ring s h);
      apart = λ i. omega (arith, F.apart i, sum_same m (λ s. occurs i (s ∷ R' s)) (λ s. occurs i (s ∷ R s)) (λ u h. rw (same u h)));
    }

-- ---- one ring is changed: R and R' are the same but for ring s

module _ {t : List ℕ} {o n m : ℕ} {R : ℕ → List ℕ} (F : Rings t o n m R) (R' : ℕ → List ℕ) (s : ℕ) (hs : s < m)
    (ys zs : List ℕ) (x : ℕ) (others : (u : ℕ) → u < m → u ≢ s → R' u ≡ R u) where
  changed : (i : ℕ) → in_rings m R i + occurs i (s ∷ R' s) ≡ in_rings m R' i + occurs i (s ∷ R s)
  changed i = sum_change m (λ s. occurs i (s ∷ R s)) (λ s. occurs i (s ∷ R' s)) s hs (λ u h d. rw (others u h d))

  -- x comes in after the last of ys
  module _ (e : R s ≡ ys ++ zs) (e' : R' s ≡ ys ++ x ∷ zs) where
    pub rings_more : (i : ℕ) → in_rings m R' i ≡ in_rings m R i + hit i x
    rings_more i = omega (arith, changed i, ap (occurs i) e, ap (occurs i) e', occurs_append i ys zs, occurs_append i ys (x ∷ zs))

    pub rings_insert : in_rings m R x ≡ 0 → x < n → Rings (link_after t o n (last_of s ys) x) o n m R'
    rings_insert out hx =
        record {
          room = room_same (insert_frame t o n (last_of s ys) x) F.room;
          ring = λ u h. at u h (ℕ_discrete u s);
          apart = λ i. one i (ℕ_discrete i x);
        }
      where
        old : RingIn t o n s (ys ++ zs)
        old = rw e at (F.ring s hs)

        outs : occurs x (s ∷ ys ++ zs) ≡ 0
        outs = rw e at (free_each m R x out s hs)

        at : (u : ℕ) → u < m → Dec (u ≡ s) → RingIn (link_after t o n (last_of s ys) x) o n u (R' u)
        at u h (yes p) = rw (p, e') (insert_ring F.room ys zs x old outs hx)
        at u h (no d) =
            rw (others u h d)
            (insert_other F.room ys zs x old outs hx (λ i. rw (← e) (one_ring F s u hs h (omega arith) i)) (free_each m R x out u h) (F.ring u h))

        one : (i : ℕ) → Dec (i ≡ x) → in_rings m R' i ≤ 1
        one i (yes p) =
            let same : in_rings m R' x ≤ 1 = omega (arith, rings_more x, hit_same x) in
            subst (λ j. in_rings m R' j ≤ 1) (sym p) same
        one i (no d) = omega (arith, rings_more i, hit_ne i x d, F.apart i)

  -- x goes, and is in no ring
  module _ (e : R s ≡ ys ++ x ∷ zs) (e' : R' s ≡ ys ++ zs) where
    pub rings_fewer : (i : ℕ) → in_rings m R i ≡ in_rings m R' i + hit i x
    rings_fewer i = omega (arith, changed i, ap (occurs i) e, ap (occurs i) e', occurs_append i ys zs, occurs_append i ys (x ∷ zs))

    pub rings_free : in_rings m R' x ≡ 0
    rings_free = omega (arith, rings_fewer x, hit_same x, F.apart x)

    pub rings_unlink : Rings (unlinked t o n x) o n m R'
    rings_unlink =
        record {
          room = room_same (unlink_frame t o n x) F.room;
          ring = λ u h. at u h (ℕ_discrete u s);
          apart = λ i. omega (arith, rings_fewer i, F.apart i);
        }
      where
        old : RingIn t o n s (ys ++ x ∷ zs)
        old = rw e at (F.ring s hs)

        at : (u : ℕ) → u < m → Dec (u ≡ s) → RingIn (unlinked t o n x) o n u (R' u)
        at u h (yes p) = rw (p, e') (unlink_ring F.room ys zs x old)
        at u h (no d) =
            rw (others u h d) (unlink_other F.room ys zs x old (λ i. rw (← e) (one_ring F s u hs h (omega arith) i)) (F.ring u h))

-- ---- from nothing

pub rings_none : {t : List ℕ} {o n : ℕ} (R : ℕ → List ℕ) → Room t o n → Rings t o n 0 R
rings_none R T = record { room = T; ring = λ s h. absurd (omega arith); apart = λ i. omega arith }

-- a family grows by the empty ring of the next node, which is in no ring
pub rings_empty : {t : List ℕ} {o n m : ℕ} {R : ℕ → List ℕ} (R' : ℕ → List ℕ) → Rings t o n m R → m < n → in_rings m R m ≡ 0
    → ((u : ℕ) → u < m → R' u ≡ R u) → R' m ≡ [] → Rings (empty_at t o n m) o n (suc m) R'
rings_empty {t} {o} {n} {m} {R} R' F hm out same e =
    record {
      room = room_same (empty_frame t o n m) F.room;
      ring = λ u h. at u h (ℕ_discrete u m);
      apart = λ i. one i (ℕ_discrete i m);
    }
  where
    at : (u : ℕ) → u < suc m → Dec (u ≡ m) → RingIn (empty_at t o n m) o n u (R' u)
    at u h (yes p) = rw (p, e) (empty_ring F.room m hm)
    at u h (no d) =
        let l : u < m = omega arith in
        rw (same u l) (empty_other F.room m hm (free_each m R m out u l) (F.ring u l))

    sums : (i : ℕ) → in_rings m R' i ≡ in_rings m R i
    sums i = sum_same m (λ s. occurs i (s ∷ R' s)) (λ s. occurs i (s ∷ R s)) (λ u h. rw (same u h))

    one : (i : ℕ) → Dec (i ≡ m) → in_rings (suc m) R' i ≤ 1
    one i (yes p) =
        let same : in_rings (suc m) R' m ≤ 1 = omega (arith, sums m, hit_same m, ap (occurs m) e) in
        subst (λ j. in_rings (suc m) R' j ≤ 1) (sym p) same
    one i (no d) = omega (arith, sums i, F.apart i, hit_ne i m d, ap (occurs i) e)
