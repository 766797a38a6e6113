-- Where the bytes hold a queue, the numbers are in range and the buffer is long enough.
use mathlib.Core.Path.{◌≡◌, refl, sym, ◌∙◌}
use mathlib.Core.Bool.{Bool, true, false, true≢false, ◌&&◌}
use mathlib.Core.List.{List}
use Prim.Native.Nat.{ℕ, ◌+◌, ◌≤◌, ◌<◌}
use native.Mathlib.Omega.{arith}
use borrow.Author.Tests.{le-leb, lt-leb, leb-true}
use lib.Dec.{leb}
use lib.ListN.{length}
use Rattle.line.specs.Station.{Plan}
use Rattle.rules.specs.Held.{Queue}
use Rattle.engine_index.specs.Represents.{Cell}
use Rattle.engine_events.specs.Represents.{fits_in, calendar_at, Stores}
use Rattle.refusal.specs.Tests.{calendar_bytes, engine_bytes}

module _ (n c k : ℕ) where
  pub fits_over : 256 < n → false ≡ fits_in n c k
  fits_over h = rw (lt-leb n 256 h)

  pub fits_many : n ≤ 256 → 4096 < c → false ≡ fits_in n c k
  fits_many h g = rw (le-leb n 256 h, lt-leb c 4096 g)

  pub fits_rest : {start : ℕ} → n ≤ 256 → c ≤ 4096 → start ≡ calendar_at n c → leb start k ≡ fits_in n c k
  fits_rest h g e = rw (e, le-leb n 256 h, le-leb c 4096 g)

  pub fits_in_lem : n ≤ 256 → c ≤ 4096 → calendar_at n c ≤ k → fits_in n c k ≡ true
  fits_in_lem h g l = rw (le-leb n 256 h, le-leb c 4096 g, le-leb (calendar_at n c) k l)

  pub fits_true : {r : Bool} → r ≡ fits_in n c k → r ≡ true → (n ≤ 256) × (c ≤ 4096) × (calendar_at n c ≤ k)
  fits_true e h = go (leb n 256) (leb c 4096) (leb (calendar_at n c) k) refl refl refl (sym e ∙ h)
    where
      go : (u v w : Bool) → leb n 256 ≡ u → leb c 4096 ≡ v → leb (calendar_at n c) k ≡ w → (u && (v && w)) ≡ true
          → (n ≤ 256) × (c ≤ 4096) × (calendar_at n c ≤ k)
      go true true true p q s z = (leb-true n 256 p, leb-true c 4096 q, leb-true (calendar_at n c) k s)
      go true true false p q s z = absurd (true≢false (sym z))
      go true false w p q s z = absurd (true≢false (sym z))
      go false v w p q s z = absurd (true≢false (sym z))

  -- the calendar's part starts within the buffer
  pub part_within : {start : ℕ} {r : Bool} → start ≡ calendar_at n c → r ≡ fits_in n c k → r ≡ true → start ≤ k
  part_within s e h = omega (arith, s, (fits_true e h).2)

pub stores_fit : {p : Plan} {n c now : ℕ} {xs : List ℕ} {q : Queue} {cells : List Cell} → Stores p n c now xs q cells → fits_in n c (length xs) ≡ true
stores_fit {n = n} {c = c} {xs = xs} S = fits_in_lem n c (length xs) S.stands.stations S.stands.capacity S.long

-- no queue is held where the test fails
pub fits_gone : {p : Plan} {n c now : ℕ} {xs : List ℕ} {q : Queue} {cells : List Cell} {r : Bool} → r ≡ fits_in n c (length xs) → r ≡ false
    → Stores p n c now xs q cells → ⊥
fits_gone e z S = true≢false (sym (stores_fit S) ∙ sym e ∙ z)

-- the bytes that number 7 asks for hold the header, the stations, the slots with their links, and a calendar
pub calendar_room : (a n c : ℕ) → 1 ≤ c → calendar_at n c + calendar_bytes a n ≤ engine_bytes a n c
calendar_room a n c h = omega arith
