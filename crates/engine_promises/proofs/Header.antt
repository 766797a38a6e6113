-- The header's words: what lies after them stays when one is stored, and they stay when what lies after them changes.
use mathlib.Core.Path.{◌≡◌, sym, ◌∙◌}
use mathlib.Core.Logic.{◌≢◌, inl, inr}
use mathlib.Core.Bool.{Bool, true, false, true≢false}
use mathlib.Core.List.{List}
use Prim.Native.Nat.{ℕ, ◌*◌, ◌^◌, ◌≤◌, ◌<◌}
use native.Mathlib.Omega.{arith}
use borrow.Author.Tests.{le-ltb}
use lib.ListN.{length}
use Rattle.words.specs.Le.{load_at, store_at}
use Rattle.words.proofs.Laws.{load_stored, load_other}
use Rattle.line.specs.Station.{Plan}
use Rattle.rules.specs.Held.{Queue}
use Rattle.rules.specs.Engine.{Setting, Engine}
use Rattle.rings.specs.Table.{Frame}
use Rattle.rings.proofs.Frames.{store_frame, frame_wider}
use Rattle.engine_rows.proofs.Rows.{words}
use Rattle.engine_index.specs.Represents.{Cell}
use Rattle.engine_events.specs.Represents.{part, fits_in, Holds}
use Rattle.engine_events.specs.Promises.{AfterHeader}
use Rattle.engine_events.proofs.CalendarPart.{part_kept}
use Rattle.engine_events.proofs.StationsKept.{stores_kept}
use Rattle.engine_events.proofs.Fitting.{stores_fit}
use Rattle.engine_promises.specs.Represents.{Represents}
use Rattle.engine_promises.specs.Steps.{at_most}

-- ---- words

-- a store to word i
pub header_frame : (i v : ℕ) (xs : List ℕ) → i < 8 → Frame 0 64 xs (store_at 8 (8 * i) v xs)
header_frame i v xs h = frame_wider 0 64 (omega arith) (omega arith) (store_frame 8 (8 * i) v xs)

pub header_word : (i v : ℕ) (xs : List ℕ) → i < 8 → 64 ≤ length xs → v < 2 ^ 64 → load_at 8 (8 * i) (store_at 8 (8 * i) v xs) ≡ v
header_word i v xs h l w = load_stored 8 (8 * i) v xs (omega arith) w

pub header_other : (i j v : ℕ) (xs : List ℕ) → i ≢ j → load_at 8 (8 * j) (store_at 8 (8 * i) v xs) ≡ load_at 8 (8 * j) xs
header_other i j v xs d = load_other 8 8 (8 * i) v xs (8 * j) (words i j d)

pub header_kept : {xs ys : List ℕ} → AfterHeader xs ys → (i : ℕ) → i < 8 → load_at 8 (8 * i) ys ≡ load_at 8 (8 * i) xs
header_kept F i h = F.loads 8 (8 * i) (inr (omega arith))

-- ---- what lies after

pub header_holds : {p : Plan} {setting : Setting} {n c now : ℕ} {xs ys : List ℕ} {q : Queue} {cells : List Cell} → Frame 0 64 xs ys
    → Holds p setting n c now xs q cells
    → Holds p setting n c now ys q cells
header_holds {n = n} {c = c} {xs = xs} {ys = ys} F H =
    let e : part n c ys ≡ part n c xs = part_kept n c F (omega arith) in
    let C = H.calendar in
    record {
      stores = stores_kept F (inl (omega arith)) H.stores;
      calendar = record { sound = rw e C.sound; arity = rw e C.arity; width = rw e C.width; floor = rw e C.floor; shows = rw e C.shows };
    }

-- ---- what the header says of an engine

module _ {p : Plan} {e : Engine} {xs : List ℕ} (R : Represents p e xs) where
  pub stations_few : p.count ≤ 256
  stations_few = R.holds.stores.stands.stations

  pub capacity_few : e.setting.capacity ≤ 4096
  capacity_few = R.holds.stores.stands.capacity

  pub read_stations : at_most 256 (load_at 8 0 xs) ≡ p.count
  read_stations = rw (R.stations, le-ltb 256 p.count stations_few)

  pub read_capacity : at_most 4096 (load_at 8 8 xs) ≡ e.setting.capacity
  read_capacity = rw (R.capacity, le-ltb 4096 e.setting.capacity capacity_few)

  pub long_enough : fits_in p.count e.setting.capacity (length xs) ≡ true
  long_enough = stores_fit R.holds.stores

  -- as a call reads it
  pub fits_read : {n c : ℕ} → n ≡ at_most 256 (load_at 8 0 xs) → c ≡ at_most 4096 (load_at 8 8 xs)
      → (p.count ≡ n) × (e.setting.capacity ≡ c) × (fits_in n c (length xs) ≡ true)
  fits_read {n} {c} s k =
      let a : p.count ≡ n = sym read_stations ∙ sym s in
      let b : e.setting.capacity ≡ c = sym read_capacity ∙ sym k in
      (a, b, rw (a, b) at long_enough)

-- no engine where the test fails
pub unfit : {p : Plan} {e : Engine} {xs : List ℕ} {n c : ℕ} {r : Bool} → n ≡ at_most 256 (load_at 8 0 xs) → c ≡ at_most 4096 (load_at 8 8 xs)
    → r ≡ fits_in n c (length xs) → r ≡ false → Represents p e xs → ⊥
unfit s k f z R = true≢false (sym (fits_read R s k).2 ∙ sym f ∙ z)
