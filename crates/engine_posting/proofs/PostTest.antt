-- The test of a slot as the code makes it: its status, then the event's source, then its number.
use mathlib.Core.Path.{◌≡◌, sym}
use mathlib.Core.Logic.{◌≢◌}
use mathlib.Core.Bool.{false}
use mathlib.Core.List.{List}
use Prim.Native.Nat.{ℕ, ◌+◌, ◌*◌}
use native.Mathlib.Omega.{arith}
use borrow.Author.Tests.{eq-eqb, ne_eqb}
use lib.Dec.{eqb}
use Rattle.words.specs.Le.{load_at}
use Rattle.line.specs.declared.Event.{Event}
use Rattle.line.specs.Event.{posted}
use Rattle.engine_rows.specs.Layout.{slot_row}
use Rattle.entry.specs.Entry.{event_at}
use Rattle.engine_posting.specs.Steps.{is_post_at}

module _ (xs : List ℕ) (n i number : ℕ) {r : ℕ} (s : r ≡ load_at 2 (slot_row n i + 56 + 2 * 2) xs) where
  status : load_at 2 (slot_row n i + 60) xs ≡ r
  status = let q : slot_row n i + 60 ≡ slot_row n i + 56 + 2 * 2 = omega arith in rw q (sym s)

  pub unheld : r ≡ 0 → false ≡ is_post_at xs n i number
  unfolding is_post_at
  unheld z = rw (status, eq-eqb r 0 z)

  module _ (h : r ≢ 0) {e : Event} (f : e ≡ event_at (slot_row n i) xs) where
    pub unposted : e.source ≢ posted → false ≡ is_post_at xs n i number
    unfolding is_post_at
    unposted d = rw (status, ne_eqb r 0 h, ← f, ne_eqb e.source posted d)

    pub numbered : e.source ≡ posted → eqb e.number number ≡ is_post_at xs n i number
    unfolding is_post_at
    numbered q = rw (status, ne_eqb r 0 h, ← f, eq-eqb e.source posted q)
