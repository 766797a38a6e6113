-- The calendar's part: what changes before it leaves it, and a call on it changes nothing else.
use mathlib.Core.Path.{◌≡◌, refl, sym, ap, ap₂, ◌∙◌}
use mathlib.Core.Logic.{◌⊎◌, inl, inr}
use mathlib.Core.List.{List, [], ◌++◌, append-nil}
use Prim.Native.Nat.{ℕ, zero, suc, ◌+◌, ◌-◌, ◌*◌, ◌≤◌, ◌<◌}
use native.Mathlib.Nat.{zero-add}
use native.Mathlib.Omega.{arith}
use borrow.Rule.Slice.PartMut.{post_of, put_mid, same_len_mid, Post-is, take_put}
use lib.ListN.{length, take, drop, get_or, length-drop, get_or-eq_default}
use lib.Seq.{get_or-take, get_or-drop, ext_get_or, length-take-le, take_all, drop-length, drop_at}
use Rattle.words.proofs.Cases.{lt_or}
use Rattle.words.specs.Le.{le_at, load_at}
use Rattle.words.proofs.Total.{load_in}
use Rattle.rings.specs.Table.{Outside, Frame}
use Rattle.engine_events.specs.Represents.{calendar_at, part}

-- ---- bytes and numbers

one_byte : (i : ℕ) (xs : List ℕ) → i < length xs → load_at 1 i xs ≡ get_or xs i 0
unfolding le_at
one_byte i xs h = load_in 1 i xs (omega arith) ∙ zero-add (get_or xs i 0)

byte_kept : {a l : ℕ} {xs ys : List ℕ} (i : ℕ) → Frame a l xs ys → Outside a l i 1 → get_or ys i 0 ≡ get_or xs i 0
byte_kept {xs = xs} {ys = ys} i F o = go (lt_or i (length xs))
  where
    go : (i < length xs) ⊎ (length xs ≤ i) → get_or ys i 0 ≡ get_or xs i 0
    go (inl h) = sym (one_byte i ys (omega (arith, F.size))) ∙ F.loads 1 i o ∙ one_byte i xs h
    go (inr h) = get_or-eq_default ys 0 (omega (arith, F.size)) ∙ sym (get_or-eq_default xs 0 h)

le_kept : (m i : ℕ) (xs ys : List ℕ) → ((j : ℕ) → i ≤ j → j < i + m → get_or ys j 0 ≡ get_or xs j 0) → le_at m i ys ≡ le_at m i xs
unfolding le_at
le_kept zero i xs ys f = refl
le_kept (suc m) i xs ys f =
    ap₂ (λ (a b : ℕ). a * 256 + b) (le_kept m (suc i) xs ys (λ j p q. f j (omega arith) (omega arith))) (f i (omega arith) (omega arith))

-- bytes that are as they were are numbers that are as they were
bytes_frame : (a l : ℕ) (xs ys : List ℕ) → length ys ≡ length xs → ((i : ℕ) → Outside a l i 1 → get_or ys i 0 ≡ get_or xs i 0) → Frame a l xs ys
unfolding load_at
bytes_frame a l xs ys e f = record { size = e; loads = λ m j o. go m j o }
  where
    each : (m j : ℕ) → Outside a l j m → (i : ℕ) → j ≤ i → i < j + m → get_or ys i 0 ≡ get_or xs i 0
    each m j (inl o) i p q = f i (inl (omega arith))
    each m j (inr o) i p q = f i (inr (omega arith))

    go : (m j : ℕ) → Outside a l j m → load_at m j ys ≡ load_at m j xs
    go m j o = rw (e, le_kept m j xs ys (each m j o))

-- ---- a change before the part

pub part_kept : {a l : ℕ} {xs ys : List ℕ} (n c : ℕ) → Frame a l xs ys → a + l ≤ calendar_at n c → part n c ys ≡ part n c xs
part_kept {a} {l} {xs} {ys} n c F h =
    ext_get_or 0 (part n c ys) (part n c xs)
    (simp (length-drop) (rw F.size))
    (λ i p.
    get_or-drop (calendar_at n c) ys i 0 ∙ byte_kept (calendar_at n c + i) F (inl (omega arith)) ∙ sym (get_or-drop (calendar_at n c) xs i 0))

-- ---- a call on the part

-- zs stands in the place of the bytes from a on, and nothing else is changed
abbrev PutAt : ℕ → List ℕ → List ℕ → List ℕ → Type 0
PutAt a xs zs ys = (drop a ys ≡ zs) × Frame a (length xs) xs ys

abbrev pub Put : ℕ → ℕ → List ℕ → List ℕ → List ℕ → Type 0
Put n c xs zs ys = PutAt (calendar_at n c) xs zs ys

module _ (start : ℕ) (xs zs : List ℕ) (h : start ≤ length xs) (s : length zs ≡ length (take (length xs - start) (drop start xs))) where
  abbrev after : List ℕ
  after = put_mid start (length xs - start) xs zs

  -- all that stands from there on is lent
  whole : take (length xs - start) (drop start xs) ≡ drop start xs
  whole = let k = length-drop start xs in take_all (length xs - start) (drop start xs) (omega (arith, k))

  nothing_after : post_of start (length xs - start) xs ≡ []
  nothing_after = Post-is start (length xs) xs h ∙ drop-length xs

  back : drop start after ≡ zs
  back =
      drop_at (take start xs) (zs ++ post_of start (length xs - start) xs) start (length-take-le start xs h)
      ∙ ap (λ (l : List ℕ). zs ++ l) nothing_after ∙ append-nil zs

  outer : (i : ℕ) → Outside start (length xs) i 1 → get_or after i 0 ≡ get_or xs i 0
  outer i (inr o) =
      let p : i < start = omega arith in
      sym (get_or-take start after i 0 p)
      ∙ ap (λ (l : List ℕ). get_or l i 0) (take_put start (length xs - start) xs zs h)
      ∙ get_or-take start xs i 0 p
  outer i (inl o) =
      get_or-eq_default after 0 (omega (arith, same_len_mid start (length xs - start) xs zs s)) ∙ sym (get_or-eq_default xs 0 (omega arith))

  put_at : PutAt start xs zs after
  put_at = (back, bytes_frame start (length xs) xs after (same_len_mid start (length xs - start) xs zs s) outer)

  -- its place by another name
  named : {a : ℕ} → start ≡ a → (take (length xs - start) (drop start xs) ≡ drop a xs) × PutAt a xs zs after
  named e = rw (← e) (whole, put_at)

-- as the call sees it: the place of the part is a local
pub part_put : (n c : ℕ) {start : ℕ} (xs zs : List ℕ) → start ≡ calendar_at n c → start ≤ length xs
    → length zs ≡ length (take (length xs - start) (drop start xs))
    → (take (length xs - start) (drop start xs) ≡ part n c xs) × Put n c xs zs (put_mid start (length xs - start) xs zs)
part_put n c {start} xs zs e h s = named start xs zs h s e

-- the same of a part that is read
pub part_whole : (n c : ℕ) {start : ℕ} (xs : List ℕ) → start ≡ calendar_at n c → take (length xs - start) (drop start xs) ≡ part n c xs
part_whole n c {start} xs e =
    let k = length-drop start xs in take_all (length xs - start) (drop start xs) (omega (arith, k)) ∙ ap (λ (a : ℕ). drop a xs) e
