-- A link that was stored reads back, and the others are as they were: the only file that looks at where the links' bytes stand.
use mathlib.Core.Path.{◌≡◌}
use mathlib.Core.Logic.{◌≢◌, inl, inr}
use mathlib.Core.Bool.{Bool, true, false, cond}
use mathlib.Core.List.{List}
use Prim.Native.Nat.{ℕ, ◌+◌, ◌*◌, ◌≤◌, ◌<◌}
use native.Mathlib.Decide.{dec_lt}
use native.Mathlib.Omega.{arith}
use borrow.Author.Tests.{le-ltb, lt-ltb}
use lib.Dec.{ltb}
use Rattle.words.specs.Le.{store_at}
use Rattle.words.proofs.Laws.{load_stored}
use Rattle.rings.specs.Table.{next_of, prev_of, with_next, with_prev, Outside, Frame}
use Rattle.rings.specs.Ring.{Room}
use Rattle.rings.proofs.Frames.{store_frame, frame_same, frame_wider}

-- ---- what a store changes, on any bytes: its link, in the table

guarded : (c : Bool) (t : List ℕ) (i v : ℕ) → Frame i 2 t (cond c (store_at 2 i v t) t)
guarded true t i v = store_frame 2 i v t
guarded false t i v = frame_same i 2 t

module _ (t : List ℕ) (o n i v : ℕ) where
  next_frame : Frame (o + 4 * i) 2 t (with_next t o n i v)
  unfolding with_next
  next_frame = guarded (ltb i n) t (o + 4 * i) v

  prev_frame : Frame (o + 4 * i + 2) 2 t (with_prev t o n i v)
  unfolding with_prev
  prev_frame = guarded (ltb i n) t (o + 4 * i + 2) v

  pub next_confined : Frame o (4 * n) t (with_next t o n i v)
  unfolding with_next
  next_confined = go (dec_lt i n)
    where
      go : Dec (i < n) → Frame o (4 * n) t (cond (ltb i n) (store_at 2 (o + 4 * i) v t) t)
      go (yes h) = rw (lt-ltb i n h) (frame_wider o (4 * n) (omega arith) (omega arith) (store_frame 2 (o + 4 * i) v t))
      go (no f) = rw (le-ltb i n (omega arith)) (frame_same o (4 * n) t)

  pub prev_confined : Frame o (4 * n) t (with_prev t o n i v)
  unfolding with_prev
  prev_confined = go (dec_lt i n)
    where
      go : Dec (i < n) → Frame o (4 * n) t (cond (ltb i n) (store_at 2 (o + 4 * i + 2) v t) t)
      go (yes h) = rw (lt-ltb i n h) (frame_wider o (4 * n) (omega arith) (omega arith) (store_frame 2 (o + 4 * i + 2) v t))
      go (no f) = rw (le-ltb i n (omega arith)) (frame_same o (4 * n) t)

-- ---- the other links

module _ (t : List ℕ) (o n i v j : ℕ) where
  pub next_other : j ≢ i → next_of (with_next t o n i v) o j ≡ next_of t o j
  next_other d = (next_frame t o n i v).loads 2 (o + 4 * j) (go (dec_lt i j))
    where
      go : Dec (i < j) → Outside (o + 4 * i) 2 (o + 4 * j) 2
      go (yes h) = inl (omega arith)
      go (no f) = inr (omega arith)

  pub prev_other : j ≢ i → prev_of (with_prev t o n i v) o j ≡ prev_of t o j
  prev_other d = (prev_frame t o n i v).loads 2 (o + 4 * j + 2) (go (dec_lt i j))
    where
      go : Dec (i < j) → Outside (o + 4 * i + 2) 2 (o + 4 * j + 2) 2
      go (yes h) = inl (omega arith)
      go (no f) = inr (omega arith)

  pub next_prev : next_of (with_prev t o n i v) o j ≡ next_of t o j
  next_prev = (prev_frame t o n i v).loads 2 (o + 4 * j) (go (dec_lt i j))
    where
      go : Dec (i < j) → Outside (o + 4 * i + 2) 2 (o + 4 * j) 2
      go (yes h) = inl (omega arith)
      go (no f) = inr (omega arith)

  pub prev_next : prev_of (with_next t o n i v) o j ≡ prev_of t o j
  prev_next = (next_frame t o n i v).loads 2 (o + 4 * j + 2) (go (dec_lt j i))
    where
      go : Dec (j < i) → Outside (o + 4 * i) 2 (o + 4 * j + 2) 2
      go (yes h) = inr (omega arith)
      go (no f) = inl (omega arith)

-- ---- a change elsewhere: the k bytes from i, which alone changed, lie outside the table

module _ {t t' : List ℕ} {i k : ℕ} (F : Frame i k t t') (o n : ℕ) (out : Outside i k o (4 * n)) where
  part : (j : ℕ) → o ≤ j → j + 2 ≤ o + 4 * n → Outside i k j 2
  part j a b = go out
    where
      go : Outside i k o (4 * n) → Outside i k j 2
      go (inl h) = inl (omega arith)
      go (inr h) = inr (omega arith)

  pub next_elsewhere : (u : ℕ) → u < n → next_of t' o u ≡ next_of t o u
  next_elsewhere u h = F.loads 2 (o + 4 * u) (part (o + 4 * u) (omega arith) (omega arith))

  pub prev_elsewhere : (u : ℕ) → u < n → prev_of t' o u ≡ prev_of t o u
  prev_elsewhere u h = F.loads 2 (o + 4 * u + 2) (part (o + 4 * u + 2) (omega arith) (omega arith))

-- ---- the link itself

pub room_same : {t t' : List ℕ} {i k o n : ℕ} → Frame i k t t' → Room t o n → Room t' o n
room_same F T = record { fits = rw F.size T.fits; few = T.few }

module _ {t : List ℕ} {o n : ℕ} (T : Room t o n) (i v : ℕ) (hi : i < n) (hv : v < n) where
  pub next_same : next_of (with_next t o n i v) o i ≡ v
  unfolding with_next
  next_same = rw (lt-ltb i n hi) (load_stored 2 (o + 4 * i) v t (omega arith) (omega arith))

  pub prev_same : prev_of (with_prev t o n i v) o i ≡ v
  unfolding with_prev
  prev_same = rw (lt-ltb i n hi) (load_stored 2 (o + 4 * i + 2) v t (omega arith) (omega arith))
