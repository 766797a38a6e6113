-- What register and unregister answer on a calendar's bytes, and what they leave.
use mathlib.Core.List.{List}
use Prim.Native.Nat.{ℕ, suc, ◌≤◌, ◌<◌}
use borrow.Author.Tests.{lt-ltb, le-ltb, le-leb, lt-leb}
use Rattle.refusal.specs.declared.Refusal.{Refusal}
use Rattle.refusal.specs.declared.Refusal.TheVariants.{Station, Late, Early}
use Rattle.refusal.specs.Tests.{or_next, judged}
use Rattle.calendar_cells.specs.Table.{arity_of, Table}
use Rattle.calendar_buckets.specs.Promises.{Kept, Gone}
use Rattle.std.specs.Prelude.{Result, Ok, Err}
use Rattle.calendar_header.specs.Rules.{register_checks, registered_at, unregister_checks, unregistered}
use Rattle.calendar_header.specs.Bytes.{floor_of, count_of, Sound, time_for}
use Rattle.calendar_header.specs.Promises.{Obeys}
use Rattle.calendar_registering.specs.Steps.{Entered}
use Rattle.calendar_header.proofs.Homes.{sound_of}
use Rattle.calendar_header.proofs.States.{state_length, state_floor}
use Rattle.calendar_registering.proofs.Entering.{state_entered, entered_gone}
use Rattle.calendar_header.proofs.Obeying.{obeys_refused, obeys_done}

-- ---- register

module _ (xs : List ℕ) (s t : ℕ) where
  abbrev ToRegister : Result Unit Refusal → List ℕ → Type 0
  ToRegister r ys = Obeys (λ q. register_checks q s t) (λ q. registered_at q s t) xs r ys

  pub register_9 : (Sound xs → count_of xs ≤ s) → ToRegister (Err Station) xs
  unfolding judged or_next
  register_9 h = obeys_refused (λ q. register_checks q s t) (λ q. registered_at q s t) xs Station (λ S. rw (state_length, le-leb (count_of xs) s (h S)))

  module _ (h : Sound xs → s < count_of xs) where
    pub register_11 : 1099511627775 < t → ToRegister (Err Late) xs
    unfolding judged or_next
    register_11 k =
        obeys_refused (λ q. register_checks q s t) (λ q. registered_at q s t) xs Late
        (λ S. rw (state_length, lt-leb (count_of xs) s (h S), lt-ltb 1099511627775 t k))

    module _ (k : t ≤ 1099511627775) where
      pub register_12 : t < floor_of xs → ToRegister (Err Early) xs
      unfolding judged or_next
      register_12 l =
          obeys_refused (λ q. register_checks q s t) (λ q. registered_at q s t) xs Early
          (λ S. rw (state_length, lt-leb (count_of xs) s (h S), le-ltb 1099511627775 t k, state_floor, lt-ltb t (floor_of xs) l))

      pub register_done : (ys : List ℕ) → floor_of xs ≤ t → (Sound xs → s < count_of xs → floor_of xs ≤ t → Entered (arity_of xs) s (suc t) xs ys) → ToRegister (Ok tt) ys
      unfolding judged or_next time_for
      register_done ys l E =
          obeys_done (λ q. register_checks q s t) (λ q. registered_at q s t) xs ys
          (λ S. rw (state_length, lt-leb (count_of xs) s (h S), le-ltb 1099511627775 t k, state_floor, le-ltb t (floor_of xs) l))
          (λ S. state_entered xs ys S s (suc t) (h S) (E S (h S) l)) (λ S. sound_of (E S (h S) l).sound)

-- ---- unregister

module _ (xs : List ℕ) (s : ℕ) where
  abbrev ToUnregister : Result Unit Refusal → List ℕ → Type 0
  ToUnregister r ys = Obeys (λ q. unregister_checks q s) (λ q. unregistered q s) xs r ys

  pub unregister_9 : (Sound xs → count_of xs ≤ s) → ToUnregister (Err Station) xs
  unfolding judged or_next
  unregister_9 h = obeys_refused (λ q. unregister_checks q s) (λ q. unregistered q s) xs Station (λ S. rw (state_length, le-leb (count_of xs) s (h S)))

  pub unregister_done : (ys : List ℕ) → (Sound xs → s < count_of xs) → s < 256 → Kept xs ys → ((a : ℕ) → Table a xs → s < 256 → Gone a s xs ys) → ToUnregister (Ok tt) ys
  unfolding judged or_next time_for
  unregister_done ys h l K G =
      obeys_done (λ q. unregister_checks q s) (λ q. unregistered q s) xs ys (λ S. rw (state_length, lt-leb (count_of xs) s (h S)))
      (λ S. state_entered xs ys S s 0 (h S) (gone S)) (λ S. sound_of (gone S).sound)
    where
      gone : Sound xs → Entered (arity_of xs) s 0 xs ys
      gone S = entered_gone xs ys S K s (G (arity_of xs) S.table l)
