-- Empty rings are made one after the other, then the slots go into the free ring in order.
use mathlib.Core.Path.{◌≡◌, refl, sym, ap, ap₂, ◌∙◌, subst}
use mathlib.Core.Logic.{◌≢◌, inl, inr}
use mathlib.Core.Bool.{Bool, true, false, true≢false}
use mathlib.Core.List.{List, [], ◌∷◌, ◌++◌, append-nil}
use Prim.Native.Nat.{ℕ, zero, suc, ◌+◌, ◌-◌, ◌*◌, ◌≤◌, ◌<◌}
use native.Mathlib.Nat.{add-zero}
use native.Mathlib.Decide.{ℕ_discrete, dec_lt}
use native.Mathlib.Numerals.{add-one}
use native.Mathlib.Omega.{arith}
use lib.ListN.{length}
use borrow.Author.Tests.{eq-eqb, ne_eqb, le-leb}
use Rattle.words.specs.Le.{load_at, store_at}
use Rattle.words.proofs.Laws.{load_stored}
use Rattle.rings.specs.Table.{link_after, empty_at, Frame}
use Rattle.rings.specs.Ring.{occurs, last_of, Room, in_rings, Rings}
use Rattle.rings.proofs.Counts.{hit_ne, occurs_append}
use Rattle.rings.proofs.Mirror.{last_snoc}
use Rattle.rings.proofs.Frames.{store_frame, frame_same, frame_on, frame_wider}
use Rattle.rings.proofs.Confined.{empty_frame, insert_frame}
use Rattle.rings.proofs.Families.{free_all, rings_none, rings_empty, rings_insert, rings_elsewhere, rings_renamed}
use Rattle.engine_rows.specs.Layout.{slot_row}
use Rattle.engine_index.specs.Layout.{node_of, links_at, log_at, nodes_of, index_bytes, slot_of, in_range}
use Rattle.engine_index.specs.Represents.{contents, status_at, Free}
use Rattle.engine_index.specs.Steps.{emptied, filled}
use Rattle.engine_index.specs.Promises.{places, Clears}

-- ---- empty rings

no_node : (x u : ℕ) → x ≢ u → occurs x (u ∷ []) ≡ 0
no_node x u d = let e = hit_ne x u d in omega arith

pub emptied_frame : (xs : List ℕ) (o k m : ℕ) → Frame o (4 * k) xs (emptied xs o k m)
unfolding emptied
emptied_frame xs o k zero = frame_same o (4 * k) xs
emptied_frame xs o k (suc m) = frame_on (emptied_frame xs o k m) (empty_frame (emptied xs o k m) o k m)

emptied_rings : (xs : List ℕ) (o k m : ℕ) → Room xs o k → m ≤ k → Rings (emptied xs o k m) o k m (λ _. [])
unfolding emptied
emptied_rings xs o k zero T h = rings_none (λ _. []) T
emptied_rings xs o k (suc m) T h =
    rings_empty (λ _. []) (emptied_rings xs o k m T (omega arith)) h (free_all m (λ _. []) m (λ u l. no_node m u (omega arith))) (λ u l. refl) refl

-- ---- the free ring

contents_none : (n : ℕ) (free : List ℕ) (u : ℕ) → u ≢ 2 * n → contents n [] free u ≡ []
unfolding contents
contents_none n free u d = rw (ne_eqb u (2 * n) d)

contents_free : (n : ℕ) (free : List ℕ) → contents n [] free (2 * n) ≡ free
unfolding contents
contents_free n free = rw (eq-eqb (2 * n) (2 * n) refl)

contents_empty : (n u : ℕ) → contents n [] [] u ≡ []
contents_empty n u = go (ℕ_discrete u (2 * n))
  where
    go : Dec (u ≡ 2 * n) → contents n [] [] u ≡ []
    go (yes e) = ap (contents n [] []) e ∙ contents_free n []
    go (no d) = contents_none n [] u d

-- the places end below the next one
places_below : (n i x : ℕ) → 2 * n + 1 + i ≤ x → occurs x (places n i) ≡ 0
unfolding places
places_below n zero x h = refl
places_below n (suc i) x h =
    let a = places_below n i x (omega arith) in
    let b = no_node x (2 * n + 1 + i) (omega arith) in
    occurs_append x (places n i) ((2 * n + 1 + i) ∷ []) ∙ omega (arith, a, b)

places_last : (n i : ℕ) → last_of (2 * n) (places n i) ≡ 2 * n + i
unfolding places
places_last n zero = sym (add-zero (2 * n))
places_last n (suc i) = last_snoc (2 * n) (places n i) (2 * n + 1 + i) ∙ omega arith

module _ (n c : ℕ) where
  abbrev o : ℕ
  o = links_at n c

  abbrev k : ℕ
  k = nodes_of n c

  fresh : (i : ℕ) → in_rings (2 * n + 1) (contents n [] (places n i)) (2 * n + 1 + i) ≡ 0
  fresh i = free_all (2 * n + 1) (contents n [] (places n i)) (2 * n + 1 + i) (λ u l. go u l (ℕ_discrete u (2 * n)))
    where
      go : (u : ℕ) → u < 2 * n + 1 → Dec (u ≡ 2 * n) → occurs (2 * n + 1 + i) (u ∷ contents n [] (places n i) u) ≡ 0
      go u l (yes e) =
          let a = no_node (2 * n + 1 + i) u (omega arith) in
          let b = places_below n i (2 * n + 1 + i) (omega arith) in
          let q : contents n [] (places n i) u ≡ places n i = ap (contents n [] (places n i)) e ∙ contents_free n (places n i) in
          rw q (omega (arith, a, b))
      go u l (no d) = rw (contents_none n (places n i) u d) (no_node (2 * n + 1 + i) u (omega arith))

  store_out : (xs : List ℕ) (i : ℕ) → i < c → Frame (slot_row n 0) (64 * c) xs (store_at 2 (slot_row n i + 60) 0 xs)
  store_out xs i h = frame_wider (slot_row n 0) (64 * c) (omega arith) (omega arith) (store_frame 2 (slot_row n i + 60) 0 xs)

  pub filled_frame : (xs : List ℕ) (i : ℕ) → i ≤ c → Frame (slot_row n 0) (64 * c + 4 * nodes_of n c) xs (filled xs n o k i)
  unfolding filled
  filled_frame xs zero h = frame_same (slot_row n 0) (64 * c + 4 * nodes_of n c) xs
  filled_frame xs (suc i) h =
      frame_on (filled_frame xs i (omega arith))
      (frame_on (frame_wider (slot_row n 0) (64 * c + 4 * nodes_of n c) (omega arith) (omega arith) (store_out (filled xs n o k i) i h))
      (frame_wider (slot_row n 0) (64 * c + 4 * nodes_of n c) (omega arith) (omega arith)
      (insert_frame (store_at 2 (slot_row n i + 60) 0 (filled xs n o k i)) o k (2 * n + i) (2 * n + 1 + i))))

  filled_rings : (xs : List ℕ) (i : ℕ) → i ≤ c → Rings xs o k (2 * n + 1) (contents n [] []) → Rings (filled xs n o k i) o k (2 * n + 1) (contents n [] (places n i))
  unfolding filled places
  filled_rings xs zero h F = F
  filled_rings xs (suc i) h F =
      let ys : List ℕ = filled xs n o k i in
      let G : Rings (store_at 2 (slot_row n i + 60) 0 ys) o k (2 * n + 1) (contents n [] (places n i)) =
      rings_elsewhere (store_out ys i h) (inl (omega arith)) (filled_rings xs i (omega arith) F) in
      subst (λ (a : ℕ). Rings (link_after (store_at 2 (slot_row n i + 60) 0 ys) o k a (2 * n + 1 + i)) o k (2 * n + 1) (contents n [] (places n i ++ (2 * n + 1 + i) ∷ [])))
      (places_last n i)
      (rings_insert G (contents n [] (places n i ++ (2 * n + 1 + i) ∷ [])) (2 * n) (omega arith) (places n i) [] (2 * n + 1 + i)
      (λ u l d. contents_none n (places n i ++ (2 * n + 1 + i) ∷ []) u d ∙ sym (contents_none n (places n i) u d))
      (contents_free n (places n i) ∙ sym (append-nil (places n i))) (contents_free n (places n i ++ (2 * n + 1 + i) ∷ [])) (fresh i) (omega arith))

  -- ---- the slots' status

  filled_status : (xs : List ℕ) (i : ℕ) → i ≤ c → slot_row n 0 + index_bytes n c ≤ length xs → (j : ℕ) → j < i → load_at 2 (slot_row n j + 60) (filled xs n o k i) ≡ 0
  unfolding filled
  filled_status xs zero h r j l = absurd (omega arith)
  filled_status xs (suc i) h r j l = go (ℕ_discrete j i) (dec_lt j i) (λ m. filled_status xs i (omega arith) r j m)
    where
      ys : List ℕ
      ys = filled xs n (links_at n c) (nodes_of n c) i

      zs : List ℕ
      zs = store_at 2 (slot_row n i + 60) 0 (filled xs n (links_at n c) (nodes_of n c) i)

      kept : load_at 2 (slot_row n j + 60) (link_after zs o k (2 * n + i) (2 * n + 1 + i)) ≡ load_at 2 (slot_row n j + 60) zs
      kept = (insert_frame zs o k (2 * n + i) (2 * n + 1 + i)).loads 2 (slot_row n j + 60) (inr (omega arith))

      go : Dec (j ≡ i) → Dec (j < i) → (j < i → load_at 2 (slot_row n j + 60) ys ≡ 0) → load_at 2 (slot_row n j + 60) (link_after zs o k (2 * n + i) (2 * n + 1 + i)) ≡ 0
      go (yes e) d ih =
          let size = (filled_frame xs i (omega arith)).size in
          kept ∙ ap (λ (m : ℕ). load_at 2 (slot_row n m + 60) zs) e ∙ load_stored 2 (slot_row n i + 60) 0 ys (omega (arith, size)) (omega arith)
      go (no d) (yes m) ih =
          kept ∙ (store_frame 2 (slot_row n i + 60) 0 ys).loads 2 (slot_row n j + 60) (inr (omega arith)) ∙ ih m
      go (no d) (no m) ih = absurd (omega arith)

  free_snoc : (xs : List ℕ) (fs : List ℕ) (x : ℕ) → Free n xs fs → status_at n x xs ≡ 0 → 2 * n < x → Free n xs (fs ++ x ∷ [])
  free_snoc xs [] x F s h = (s, h, tt)
  free_snoc xs (y ∷ fs) x F s h = (F.0, F.1, free_snoc xs fs x F.2 s h)

  places_free : (xs : List ℕ) (i : ℕ) → ((j : ℕ) → j < i → load_at 2 (slot_row n j + 60) xs ≡ 0) → Free n xs (places n i)
  unfolding places
  places_free xs zero h = tt
  places_free xs (suc i) h =
      let e : slot_of n (2 * n + 1 + i) ≡ i = omega arith in
      free_snoc xs (places n i) (2 * n + 1 + i) (places_free xs i (λ j l. h j (omega arith)))
      (ap (λ (m : ℕ). load_at 2 (slot_row n m + 60) xs) e ∙ h i (omega arith)) (omega arith)

  -- ---- all of it

  pub cleared : (xs ys zs us : List ℕ) → ys ≡ emptied xs o k (2 * n + 1) → zs ≡ filled ys n o k c → us ≡ empty_at zs (log_at n c) k 0 → Clears n c xs us
  cleared xs ys zs us ey ez eu hn hc room = rw (eu, ez, ey) record {
    stations = hn;
    capacity = hc;
    room = rw (L.size, G.size, E.size) room;
    rings = rings_elsewhere L (inr (omega arith)) rings_z;
    log = rings_empty (λ _. []) (rings_none {t = z} {o = log_at n c} {n = k} (λ _. []) record { fits = rw (G.size, E.size) (omega arith); few = omega arith }) (omega arith)
        (free_all 0 (λ _. []) 0 (λ u l. absurd (omega arith))) (λ u l. absurd (omega arith)) refl;
    stored = tt;
    unused = places_free (empty_at z (log_at n c) k 0) c
        (λ j l. L.loads 2 (slot_row n j + 60) (inr (omega arith)) ∙ filled_status y c (omega arith) (rw E.size room) j l);
    sorted = tt;
  }
    where
      y : List ℕ
      y = emptied xs (links_at n c) (nodes_of n c) (2 * n + 1)

      z : List ℕ
      z = filled (emptied xs (links_at n c) (nodes_of n c) (2 * n + 1)) n (links_at n c) (nodes_of n c) c

      E : Frame (links_at n c) (4 * nodes_of n c) xs (emptied xs (links_at n c) (nodes_of n c) (2 * n + 1))
      E = emptied_frame xs (links_at n c) (nodes_of n c) (2 * n + 1)

      G : Frame (slot_row n 0) (64 * c + 4 * nodes_of n c) y z
      G = filled_frame y c (omega arith)

      L : Frame (log_at n c) (4 * nodes_of n c) z (empty_at z (log_at n c) (nodes_of n c) 0)
      L = empty_frame z (log_at n c) (nodes_of n c) 0

      rings_y : Rings y (links_at n c) (nodes_of n c) (2 * n + 1) (contents n [] [])
      rings_y =
          rings_renamed (contents n [] []) (λ u l. contents_empty n u)
          (emptied_rings xs (links_at n c) (nodes_of n c) (2 * n + 1) record { fits = omega arith; few = omega arith } (omega arith))

      rings_z : Rings z (links_at n c) (nodes_of n c) (2 * n + 1) (contents n [] (places n c))
      rings_z = filled_rings y c (omega arith) rings_y

-- ---- turns of the loops

pub filled_on : (xs : List ℕ) (n o k i : ℕ) {x : ℕ} {ys zs us : List ℕ} → ys ≡ filled xs n o k i → zs ≡ store_at 2 (slot_row n i + 56 + 2 * 2) 0 ys
    → x ≡ node_of n i → us ≡ link_after zs o k (x - 1) x → us ≡ filled xs n o k (i + 1)
unfolding filled
filled_on xs n o k i {x} {ys} {zs} {us} ey ez ex eu =
    let a : slot_row n i + 56 + 2 * 2 ≡ slot_row n i + 60 = omega arith in
    let p : x - 1 ≡ 2 * n + i = omega arith in
    rw (add-one, ← ey)
    (eu ∙ ap₂ (λ (y z : ℕ). link_after zs o k y z) p ex
    ∙ ap (λ (t : List ℕ). link_after t o k (2 * n + i) (2 * n + 1 + i)) (ez ∙ ap (λ (m : ℕ). store_at 2 m 0 ys) a))

-- ---- frames

pub cleared_inside : (n c : ℕ) (xs ys zs us : List ℕ) → ys ≡ emptied xs (links_at n c) (nodes_of n c) (2 * n + 1) → zs ≡ filled ys n (links_at n c) (nodes_of n c) c
    → us ≡ empty_at zs (log_at n c) (nodes_of n c) 0 → Frame (slot_row n 0) (index_bytes n c) xs us
cleared_inside n c xs ys zs us ey ez eu =
    subst (Frame (slot_row n 0) (index_bytes n c) xs) (sym eu)
    (frame_on (subst (Frame (slot_row n 0) (index_bytes n c) xs) (sym ey)
    (frame_wider (slot_row n 0) (index_bytes n c) (omega arith) (omega arith) (emptied_frame xs (links_at n c) (nodes_of n c) (2 * n + 1))))
    (frame_on (subst (Frame (slot_row n 0) (index_bytes n c) ys) (sym ez)
    (frame_wider (slot_row n 0) (index_bytes n c) (omega arith) (omega arith) (filled_frame n c ys c (omega arith))))
    (frame_wider (slot_row n 0) (index_bytes n c) (omega arith) (omega arith) (empty_frame zs (log_at n c) (nodes_of n c) 0))))

-- ---- the steps of `clear`

pub clear_made : (n c : ℕ) (xs : List ℕ) {o k l m : ℕ} {ys zs us : List ℕ} → o ≡ links_at n c → k ≡ nodes_of n c → m ≡ node_of n 0 → ys ≡ emptied xs o k m
    → zs ≡ filled ys n o k c → l ≡ log_at n c → us ≡ empty_at zs l k 0 → Frame (slot_row n 0) (index_bytes n c) xs us × Clears n c xs us
clear_made n c xs {m = m} {ys = ys} {zs = zs} {us = us} eo ek em ey ez el eu =
    let first : m ≡ 2 * n + 1 = omega arith in
    let a : ys ≡ emptied xs (links_at n c) (nodes_of n c) (2 * n + 1) = rw (← eo, ← ek, ← first) ey in
    let b : zs ≡ filled ys n (links_at n c) (nodes_of n c) c = rw (← eo, ← ek) ez in
    let d : us ≡ empty_at zs (log_at n c) (nodes_of n c) 0 = rw (← el, ← ek) eu in
    (cleared_inside n c xs ys zs us a b d, cleared n c xs ys zs us a b d)

pub clear_none : (n c : ℕ) (xs : List ℕ) {r : Bool} → r ≡ in_range n c → r ≡ false → Frame (slot_row n 0) (index_bytes n c) xs xs × Clears n c xs xs
clear_none n c xs e f = (
  frame_same (slot_row n 0) (index_bytes n c) xs,
  λ hn hc _. absurd (true≢false (sym (rw (le-leb n 256 hn, le-leb c 4096 hc)) ∙ sym e ∙ f)),
)
