-- An event is held by the code of `hold`, from what its calls promise; where it does nothing, no event can be held.
use mathlib.Core.Path.{◌≡◌, refl, sym, ◌∙◌}
use mathlib.Core.Bool.{Bool, true, false, cond, ◌&&◌}
use mathlib.Core.List.{List}
use Prim.Native.Nat.{ℕ, ◌≤◌, ◌<◌}
use native.Mathlib.Omega.{arith}
use borrow.Author.Tests.{lt-ltb, le-ltb}
use lib.Dec.{ltb}
use lib.ListN.{length}
use Rattle.line.specs.declared.Event.{Event}
use Rattle.engine_index.specs.Promises.{Spares, Puts}
use Rattle.engine_index.specs.Layout.{slot_found}
use Rattle.engine_ends.specs.Ends.{first_free, spare_node}
use Rattle.engine_events.specs.Represents.{fits_in}
use Rattle.engine_events.specs.Promises.{AfterHeader}
use Rattle.engine_moves.specs.Promises.{HoldsEvent}
use Rattle.engine_moves.specs.Answers.{held_node}
use Rattle.engine_events.proofs.Fitting.{fits_gone}
use Rattle.engine_events.proofs.AfterHeader.{after_header, after_header_same, after_header_on}
use Rattle.engine_moves.proofs.Changes.Hold.{takes}
use Rattle.engine_moves.proofs.FromCalls.CallsOfChanges.{Told, Indexed}

-- what the code has at its end
abbrev HoldEnd : ℕ → ℕ → Event → List ℕ → ℕ → List ℕ → Type 0
HoldEnd n c e xs r zs = AfterHeader xs zs × (HoldsEvent n c xs e r zs × (r ≡ held_node xs n c e))

module _ (n c : ℕ) (e : Event) (xs : List ℕ) where
  pub hold_made : {v : Bool} (r : ℕ) {ys zs : List ℕ} → v ≡ fits_in n c (length xs) → v ≡ true → e.target < n
      → Indexed n c xs ys × (Puts n c xs e r ys × (Spares n c r xs ys × ((r ≡ spare_node xs n c) × (r ≡ 0 → ys ≡ xs)))) → Told n c e.target ys zs
      → HoldEnd n c e xs r zs
  unfolding held_node
  hold_made {v} r f t l I T = (
    after_header_on (after_header (omega arith) I.0) (after_header (omega arith) T.0),
    (takes n c e r I.0 I.1.0 I.1.1.0 T.1, I.1.1.1.0 ∙ sym taken),
  )
    where
      taken : held_node xs n c e ≡ spare_node xs n c
      taken = let fit : fits_in n c (length xs) ≡ true = sym f ∙ t in rw (fit, lt-ltb e.target n l)

  pub hold_unfit : {v : Bool} → v ≡ fits_in n c (length xs) → v ≡ false → HoldEnd n c e xs 0 xs
  unfolding held_node
  hold_unfit k z = (after_header_same xs, ((λ p setting now q cells H _ _ _ _ _ _. absurd (fits_gone k z H.stores)), none))
    where
      none : 0 ≡ held_node xs n c e
      none = let unfit : fits_in n c (length xs) ≡ false = sym k ∙ z in rw unfit

  pub hold_slotless : c ≤ 0 → HoldEnd n c e xs 0 xs
  unfolding held_node spare_node
  hold_slotless l = (after_header_same xs, ((λ p setting now q cells H room _ _ _ _ _. absurd (omega (arith, H.stores.some))), none))
    where
      either : (v : Bool) → ◌≡◌ {A = ℕ} 0 (cond v 0 0)
      either true = refl
      either false = refl

      none : 0 ≡ held_node xs n c e
      none = rw (le-ltb (slot_found n c (length xs) (first_free xs n c)) c (omega arith)) (either (fits_in n c (length xs) && ltb e.target n))

  pub hold_outside : {v : Bool} → v ≡ fits_in n c (length xs) → v ≡ true → n ≤ e.target → HoldEnd n c e xs 0 xs
  unfolding held_node
  hold_outside f t l = (after_header_same xs, ((λ p setting now q cells H _ _ k _ _ _. absurd (omega arith)), none))
    where
      none : 0 ≡ held_node xs n c e
      none = let fit : fits_in n c (length xs) ≡ true = sym f ∙ t in rw (fit, le-ltb e.target n l)
