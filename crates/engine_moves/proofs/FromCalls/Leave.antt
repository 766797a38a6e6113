-- An event leaves by the code of `discard` and of `release`, from what their calls promise.
use mathlib.Core.Path.{◌≡◌, ◌∙◌, subst}
use mathlib.Core.Logic.{◌≢◌}
use mathlib.Core.List.{List}
use Prim.Native.Nat.{ℕ, ◌+◌, ◌≤◌}
use native.Mathlib.Omega.{arith}
use lib.ListN.{length}
use Rattle.words.specs.Le.{load_at}
use Rattle.line.specs.declared.Event.{Event}
use Rattle.rules.specs.Held.{unrun}
use Rattle.engine_rows.specs.Layout.{slot_row}
use Rattle.entry.specs.Entry.{event_at}
use Rattle.engine_index.specs.Layout.{slot_of, IsSlot}
use Rattle.engine_index.specs.Promises.{Spares, Sets, Drops, Releases as IndexReleases}
use Rattle.engine_moves.specs.RunCount.{runs_below}
use Rattle.engine_events.specs.Promises.{AfterHeader}
use Rattle.engine_moves.specs.Steps.{Tells}
use Rattle.engine_moves.specs.Promises.{DiscardsEvent, ReleasesEvent}
use Rattle.engine_events.proofs.AfterHeader.{after_header, after_header_same, after_header_on}
use Rattle.engine_moves.proofs.Bytes.RunCount.{runs_most}
use Rattle.engine_moves.proofs.Changes.Leave.{leaves, releases}
use Rattle.engine_moves.proofs.FromCalls.CallsOfChanges.{Told, Indexed, told_status}
use Rattle.engine_moves.proofs.FromCalls.NoneHeld.{Nowhere, event_is}

-- ---- release

pub release_made : (n c x : ℕ) {xs ys : List ℕ} → Indexed n c xs ys × (IndexReleases n c xs x ys × Spares n c x xs ys)
    → AfterHeader xs ys × ReleasesEvent n c xs x ys
release_made n c x I = (after_header (omega arith) I.0, releases n c x I.0 I.1.1 I.1.0)

-- ---- discard

module _ (n c x : ℕ) where
  pub discard_made : (e : Event) {i : ℕ} {xs ys zs : List ℕ} → IsSlot n c (length xs) x × (i ≡ slot_of n x) → e ≡ event_at (slot_row n i) xs
      → Indexed n c xs ys × (Drops n c xs x ys × (Spares n c x xs ys × Sets n c x 0 xs ys)) → Told n c e.target ys zs
      → AfterHeader xs zs × ((runs_below n zs c ≤ runs_below n xs c) × DiscardsEvent n c xs x zs)
  discard_made e {i} {xs} {ys} {zs} s q I T = (
    after_header_on (after_header (omega arith) I.0) (after_header (omega arith) T.0),
    (runs_most n xs zs (slot_of n x) left c (λ j l d. told_status n c T j l ∙ I.1.1.0.statuses j l d), gone),
  )
    where
      zeroed : load_at 2 (slot_row n (slot_of n x) + 60) ys ≡ 0
      zeroed = I.1.1.1 s.0

      zero_is : load_at 2 (slot_row n (slot_of n x) + 60) zs ≡ 0
      zero_is = told_status n c T (slot_of n x) (omega (arith, s.0.above, s.0.below)) ∙ zeroed

      event_there : e ≡ event_at (slot_row n (slot_of n x)) xs
      event_there = rw s.1 at q

      left : load_at 2 (slot_row n (slot_of n x) + 60) zs ≢ 2
      left z = omega (arith, zero_is, z)

      gone : DiscardsEvent n c xs x zs
      gone p setting now r cells f H m un =
          let z : e ≡ f = event_there ∙ event_is n c x xs (unrun f) H.stores m in
          leaves n c x I.0 I.1.1.0 f I.1.0 (subst (λ g. Tells n c g.target ys zs) z T.1) p setting now r cells H m un

  pub discard_none : (xs : List ℕ) → Nowhere n c xs x → AfterHeader xs xs × ((runs_below n xs c ≤ runs_below n xs c) × DiscardsEvent n c xs x xs)
  discard_none xs R = (after_header_same xs, (omega arith, (λ p setting now q cells e H m _. absurd (R p now q cells (unrun e) H.stores m))))
