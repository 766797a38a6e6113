-- An event is unrun by the code of `unrun`, from what its calls promise; where it does nothing, the node is no run event's.
use mathlib.Core.Path.{◌≡◌, refl, sym, ap, ◌∙◌, subst}
use mathlib.Core.Logic.{◌≢◌, inl}
use mathlib.Core.Bool.{Bool, true, false, true≢false}
use mathlib.Core.List.{List}
use Prim.Native.Nat.{ℕ, ◌+◌, ◌*◌, ◌≤◌, ◌<◌}
use native.Mathlib.Omega.{arith}
use borrow.Author.Tests.{lt-ltb, le-ltb, eq-eqb, ne_eqb}
use lib.ListN.{length, get_or}
use Rattle.words.specs.Le.{load_at}
use Rattle.line.specs.declared.Event.{Event}
use Rattle.line.specs.declared.State.{State}
use Rattle.line.specs.Station.{Plan, update}
use Rattle.rules.specs.Held.{ran, Queue, unmark}
use Rattle.rules.specs.Engine.{Setting}
use Rattle.rules.specs.Undo.{NoneLater}
use Rattle.engine_rows.specs.Layout.{station_row, slot_row}
use Rattle.entry.specs.Entry.{event_at}
use Rattle.engine_records.specs.Records.{state_at, put_state}
use Rattle.line.specs.Widths.{StateFits}
use Rattle.engine_records.proofs.RecordLaws.{length_state}
use Rattle.engine_records.proofs.Fits.{state_fits}
use Rattle.engine_index.specs.Layout.{slot_of, IsSlot, slot_found}
use Rattle.engine_index.specs.Promises.{Spares, Sets, Unmarks}
use Rattle.engine_index.specs.Represents.{Cell, cell, status_at}
use Rattle.engine_rows.proofs.Rows.{state_of}
use Rattle.engine_index.proofs.CellFrames.{OnlyAt, written_only}
use Rattle.engine_index.proofs.Places.FoundSlot.{finds}
use Rattle.engine_events.specs.Represents.{fits_in, Has, Stores}
use Rattle.engine_moves.specs.RunCount.{runs_below}
use Rattle.engine_events.specs.Promises.{AfterHeader}
use Rattle.engine_moves.specs.Promises.{HoldsAmong, UnrunsEvent, NoneWaits}
use Rattle.engine_moves.specs.Answers.{has_run_at}
use Rattle.engine_moves.specs.Steps.{Tells}
use Rattle.engine_events.proofs.AfterHeader.{after_header, after_header_same, after_header_on}
use Rattle.engine_moves.proofs.Cells.Members.{member}
use Rattle.engine_moves.proofs.Bytes.RunCount.{runs_less}
use Rattle.engine_moves.proofs.Changes.Unrun.{unruns}
use Rattle.engine_moves.proofs.FromCalls.CallsOfChanges.{Told, Indexed, told_status}
use Rattle.engine_moves.proofs.FromCalls.NoneHeld.{event_is, nowhere_fits, nowhere_slot, nowhere_target}

-- what the code has after its calls
abbrev pub UnrunEnd : ℕ → ℕ → ℕ → List ℕ → Bool → List ℕ → Type 0
UnrunEnd n c x xs r zs =
    AfterHeader xs zs × ((r ≡ false → zs ≡ xs) × ((r ≡ true → 1 + runs_below n zs c ≤ runs_below n xs c) × (UnrunsEvent n c xs x r zs × (r ≡ has_run_at xs n c x))))

-- number 2 of a slot is its status
status_at_lem : (n : ℕ) {i j k : ℕ} (xs : List ℕ) → i ≡ j → k ≡ load_at 2 (slot_row n i + 56 + 2 * 2) xs → k ≡ load_at 2 (slot_row n j + 60) xs
status_at_lem n {i} {j} xs e h = h ∙ ap (λ (a : ℕ). load_at 2 a xs) (omega arith)

module _ (n c x : ℕ) where
  pub unrun_made : (e : Event) (b : State) {v : Bool} {i k : ℕ} {xs ys us zs : List ℕ} → v ≡ fits_in n c (length xs) → v ≡ true
      → i ≡ slot_found n c (length xs) x → i < c
      → k ≡ load_at 2 (slot_row n i + 56 + 2 * 2) xs → k ≡ 2 → e ≡ event_at (slot_row n i) xs → e.target < n
      → b ≡ state_at (slot_row n i + 24) xs → ((j : ℕ) → get_or xs j 0 < 256)
      → Indexed n c xs ys × (Unmarks n c xs x ys
      × (Spares n c x xs ys × ((event_at (slot_row n (slot_of n x)) xs).target < n → Sets n c x 1 xs ys)))
      → us ≡ put_state (station_row n e.target + 32) b ys → Told n c e.target us zs
      → UnrunEnd n c x xs true zs
  unfolding has_run_at
  unrun_made e b {v} {i} {k} {xs} {ys} {us} {zs} ev fit ei found ek two ee l eb bytes I ea T = (
    after_header_on (after_header (omega arith) I.0) (after_header_on (after_header (omega arith) set) (after_header (omega arith) T.0)),
    (
      (λ z. absurd (true≢false z)),
      ((λ _. runs_less n xs zs (slot_of n x) left c (omega (arith, s.0.above, s.0.below)) status_two (λ j h d. status j h ∙ I.1.1.0.statuses j h d)), (back, sym answer)),
    ),
  )
    where
      s : IsSlot n c (length xs) x × (i ≡ slot_of n x)
      s = (finds ei).sound found

      set : OnlyAt (state_of n e.target) ys us
      set = rw ea (written_only (state_of n e.target) b ys)

      status : (j : ℕ) → j < c → load_at 2 (slot_row n j + 60) zs ≡ load_at 2 (slot_row n j + 60) ys
      status j h = told_status n c T j h ∙ set.loads 2 (slot_row n j + 60) (inl (omega arith))

      event_there : e ≡ event_at (slot_row n (slot_of n x)) xs
      event_there = rw s.1 at ee

      -- the station that the code has read is that of the slot's event
      at_station : (event_at (slot_row n (slot_of n x)) xs).target < n
      at_station = subst (λ (f : Event). f.target < n) event_there l

      unmarked : load_at 2 (slot_row n (slot_of n x) + 60) ys ≡ 1
      unmarked = I.1.1.1 at_station s.0

      one_is : load_at 2 (slot_row n (slot_of n x) + 60) zs ≡ 1
      one_is = status (slot_of n x) (omega (arith, s.0.above, s.0.below)) ∙ unmarked

      left : load_at 2 (slot_row n (slot_of n x) + 60) zs ≢ 2
      left z = omega (arith, one_is, z)

      status_two : load_at 2 (slot_row n (slot_of n x) + 60) xs ≡ 2
      status_two = sym (status_at_lem n xs s.1 ek) ∙ two

      answer : has_run_at xs n c x ≡ true
      answer =
          let f : fits_in n c (length xs) ≡ true = sym ev ∙ fit in
          rw (f, ← ei, lt-ltb i c found, eq-eqb (status_at n x xs) 2 status_two, lt-ltb (event_at (slot_row n (slot_of n x)) xs).target n at_station)

      state_there : b ≡ state_at (slot_row n (slot_of n x) + 24) xs
      state_there = rw s.1 at eb

      fits : StateFits b
      fits = rw state_there (state_fits (slot_row n (slot_of n x) + 24) xs bytes)

      told : Tells n c e.target (put_state (station_row n e.target + 32) b ys) zs
      told = rw ea at T.1

      Back : Plan → Setting → ℕ → Queue → List Cell → Event → State → Type 0
      Back p setting now q cells f a = Has (cell x (ran f a)) cells → NoneLater f q.held → NoneWaits f q.held
          → HoldsAmong p setting n c now zs (record { states = update q.states f.target a; held = unmark f q.held }) cells

      back : UnrunsEvent n c xs x true zs
      back p setting now q cells f a H m later waits =
          let y : e ≡ f = event_there ∙ event_is n c x xs (ran f a) H.stores m in
          let z : b ≡ a = state_there ∙ (member H.stores.stands (cell x (ran f a)) m).0.2 in (
            refl,
            subst (λ g. Back p setting now q cells g a) y
                (subst (λ g. Back p setting now q cells e g) z (λ h o u. unruns n c x e b I.0 I.1.1.0 I.1.0 told p setting now q cells H h fits o u)) m later waits,
          )

  module _ (xs : List ℕ) where
    unrun_none : ((p : Plan) (now : ℕ) (q : Queue) (cells : List Cell) (e : Event) (b : State) → Stores p n c now xs q cells
        → Has (cell x (ran e b)) cells → ⊥)
        → has_run_at xs n c x ≡ false → UnrunEnd n c x xs false xs
    unrun_none R z = (
      after_header_same xs,
      (
        (λ _. refl),
        ((λ z. absurd (true≢false (sym z))), ((λ p setting now q cells e b H m _ _. absurd (R p now q cells e b H.stores m)), sym z)),
      ),
    )

    -- the buffer does not fit
    pub unrun_unfit : {v : Bool} → v ≡ fits_in n c (length xs) → v ≡ false → UnrunEnd n c x xs false xs
    unfolding has_run_at
    unrun_unfit {v} ev z = unrun_none (λ p now q cells e b S m. nowhere_fits n c x xs ev z p now q cells (ran e b) S m) answer
      where
        answer : has_run_at xs n c x ≡ false
        answer = let f : fits_in n c (length xs) ≡ false = sym ev ∙ z in rw f

    module _ {v : Bool} (ev : v ≡ fits_in n c (length xs)) (fit : v ≡ true) {i : ℕ} (ei : i ≡ slot_found n c (length xs) x) where
      fits_here : fits_in n c (length xs) ≡ true
      fits_here = sym ev ∙ fit

      -- the node is no slot's
      pub unrun_slotless : c ≤ i → UnrunEnd n c x xs false xs
      unfolding has_run_at
      unrun_slotless l = unrun_none (λ p now q cells e b S m. nowhere_slot n c x xs (finds ei) l p now q cells (ran e b) S m) answer
        where
          answer : has_run_at xs n c x ≡ false
          answer = rw (fits_here, ← ei, le-ltb i c l)

      module _ (found : i < c) where
        slot_is : i ≡ slot_of n x
        slot_is = ((finds ei).sound found).1

        -- its status is no run event's
        pub unrun_other : {k : ℕ} → k ≡ load_at 2 (slot_row n i + 56 + 2 * 2) xs → k ≢ 2 → UnrunEnd n c x xs false xs
        unfolding has_run_at
        unrun_other {k} ek d = unrun_none (λ p now q cells e b S m. d (there ∙ (member S.stands (cell x (ran e b)) m).0.1)) answer
          where
            there : k ≡ status_at n x xs
            there = status_at_lem n xs slot_is ek

            answer : has_run_at xs n c x ≡ false
            answer = rw (fits_here, ← ei, lt-ltb i c found, ne_eqb (status_at n x xs) 2 (λ z. d (there ∙ z)))

        -- its event is at no station
        pub unrun_stray : {k : ℕ} {e : Event} → k ≡ load_at 2 (slot_row n i + 56 + 2 * 2) xs → k ≡ 2 → e ≡ event_at (slot_row n i) xs → n ≤ e.target
            → UnrunEnd n c x xs false xs
        unfolding has_run_at
        unrun_stray {k} {e} ek two ee l =
            unrun_none (λ p now q cells f b S m. nowhere_target n c x xs slot_is ee l p now q cells (ran f b) S m) answer
          where
            two_is : status_at n x xs ≡ 2
            two_is = sym (status_at_lem n xs slot_is ek) ∙ two

            there : e ≡ event_at (slot_row n (slot_of n x)) xs
            there = rw slot_is at ee

            away : n ≤ (event_at (slot_row n (slot_of n x)) xs).target
            away = subst (λ (f : Event). n ≤ f.target) there l

            answer : has_run_at xs n c x ≡ false
            answer =
                rw (fits_here, ← ei, lt-ltb i c found, eq-eqb (status_at n x xs) 2 two_is, le-ltb (event_at (slot_row n (slot_of n x)) xs).target n away)

pub unrun_size : (n c t : ℕ) (b : State) (xs : List ℕ) {ys us : List ℕ} → Indexed n c xs ys → us ≡ put_state (station_row n t + 32) b ys
    → length us ≡ length xs
unrun_size n c t b xs {ys} F e = ap length e ∙ length_state (station_row n t + 32) b ys ∙ F.size
