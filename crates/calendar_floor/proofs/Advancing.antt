-- What advance answers on a calendar's bytes, and what it leaves.
use mathlib.Core.Path.{◌≡◌, sym, ap, ◌∙◌}
use mathlib.Core.Bool.{true, false}
use mathlib.Core.List.{List}
use Prim.Native.Nat.{ℕ, ◌≤◌, ◌<◌}
use native.Mathlib.Omega.{arith}
use borrow.Author.Tests.{lt-ltb, le-ltb}
use Rattle.refusal.specs.declared.Refusal.{Refusal}
use Rattle.refusal.specs.declared.Refusal.TheVariants.{Late, Early, Unrun}
use Rattle.refusal.specs.Tests.{or_next, judged}
use Rattle.std.specs.Prelude.{Result, Ok, Err}
use Rattle.calendar_header.specs.Rules.{any_before, advance_checks, advanced}
use Rattle.calendar_header.specs.Bytes.{floor_of, count_of, SoundAt, Sound, state_of, width_of, times_from}
use Rattle.calendar_header.specs.Promises.{Obeys}
use Rattle.calendar_floor.specs.Steps.{Risen}
use Rattle.calendar_header.proofs.States.{state_floor}
use Rattle.calendar_cells.specs.Table.{arity_of, due_of}
use Rattle.calendar_header.proofs.Homes.{sound_of}
use Rattle.calendar_header.proofs.Times.{times_same}
use Rattle.calendar_header.proofs.Obeying.{obeys_refused, obeys_done}

-- ---- the state

module _ {a : ℕ} (xs ys : List ℕ) (S : SoundAt a xs) where
  state_risen : (f : ℕ) → Risen a f xs ys → state_of ys ≡ advanced (state_of xs) f
  unfolding state_of
  state_risen f R =
      let a : arity_of ys ≡ arity_of xs = sym R.sound.table.arity_is ∙ S.table.arity_is in
      let w : width_of ys ≡ width_of xs = R.width_is in
      let g : floor_of ys ≡ f = R.floor_is in
      let t : times_from (due_of ys) 0 (count_of ys) ≡ times_from (due_of xs) 0 (count_of xs) =
      ap (times_from (due_of ys) 0) R.count_is
      ∙ times_same (due_of xs) (due_of ys) (count_of xs) (λ x lx. R.dues x (omega (arith, S.header.count_most))) in
      λ i. record { arity = a i; width = w i; floor = g i; times = t i }

-- ---- advance

module _ (xs : List ℕ) (f : ℕ) where
  abbrev ToAdvance : Result Unit Refusal → List ℕ → Type 0
  ToAdvance r ys = Obeys (λ q. advance_checks q f) (λ q. advanced q f) xs r ys

  pub advance_11 : 1099511627776 < f → ToAdvance (Err Late) xs
  unfolding judged or_next
  advance_11 h = obeys_refused (λ q. advance_checks q f) (λ q. advanced q f) xs Late (λ S. rw (lt-ltb 1099511627776 f h))

  module _ (h : f ≤ 1099511627776) where
    pub advance_12 : f < floor_of xs → ToAdvance (Err Early) xs
    unfolding judged or_next
    advance_12 k =
        obeys_refused (λ q. advance_checks q f) (λ q. advanced q f) xs Early (λ S. rw (le-ltb 1099511627776 f h, state_floor, lt-ltb f (floor_of xs) k))

    module _ (k : floor_of xs ≤ f) where
      pub advance_15 : (Sound xs → true ≡ any_before f (state_of xs).times) → ToAdvance (Err Unrun) xs
      unfolding judged or_next
      advance_15 a =
          obeys_refused (λ q. advance_checks q f) (λ q. advanced q f) xs Unrun
          (λ S. rw (le-ltb 1099511627776 f h, state_floor, le-ltb f (floor_of xs) k, ← a S))

      pub advance_done : (ys : List ℕ) → (Sound xs → false ≡ any_before f (state_of xs).times) → (Sound xs → Risen (arity_of xs) f xs ys) → ToAdvance (Ok tt) ys
      unfolding judged or_next
      advance_done ys a R =
          obeys_done (λ q. advance_checks q f) (λ q. advanced q f) xs ys
          (λ S. rw (le-ltb 1099511627776 f h, state_floor, le-ltb f (floor_of xs) k, ← a S)) (λ S. state_risen xs ys S f (R S)) (λ S. sound_of (R S).sound)
