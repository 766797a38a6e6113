-- A commit is judged: the first of its four numbers that holds refuses it.
use mathlib.Core.Path.{◌≡◌, sym, subst}
use mathlib.Core.Bool.{Bool, true, false}
use mathlib.Core.List.{List}
use Prim.Native.Nat.{ℕ, ◌+◌, ◌*◌, ◌≤◌, ◌<◌}
use native.Mathlib.Omega.{arith}
use borrow.Author.Tests.{lt-ltb, le-ltb}
use lib.ListN.{length}
use Rattle.std.specs.Prelude.{Ok, Err}
use Rattle.refusal.specs.declared.Refusal.{Refusal}
use Rattle.refusal.specs.declared.Refusal.TheVariants.{Space, Late, Early, Unrun, Output}
use Rattle.refusal.specs.Numbers.{number_of}
use Rattle.refusal.specs.Tests.{horizon, accepted, refused, or_next, judged}
use Rattle.words.specs.Le.{load_at}
use Rattle.line.specs.Station.{Plan}
use Rattle.rules.specs.Held.{unrun_before, logged}
use Rattle.rules.specs.Engine.{Engine, Commit}
use Rattle.rules.specs.Checks.{checks}
use Rattle.engine_events.specs.Represents.{fits_in, Holds}
use Rattle.engine_promises.specs.Represents.{Represents}
use Rattle.engine_promises.specs.Steps.{at_most}
use Rattle.engine_committing.specs.declared.Front.{Front}
use Rattle.engine_committing.specs.Steps.{Counts, JudgesCommit}
use Rattle.engine_committing.specs.Steps.{Early as SaysEarly}
use Rattle.engine_promises.proofs.Header.{fits_read, unfit}
use Rattle.engine_promises.proofs.Refused.{judges_refusal}

-- ---- the numbers

module _ (p : Plan) (e : Engine) (time : ℕ) (output : List ℕ) where
  judged_late : horizon + 1 < time → judged (checks p e (Commit time output)) ≡ refused 11
  unfolding checks judged or_next
  judged_late h = rw (lt-ltb (horizon + 1) time h)

  module _ (a : time ≤ horizon + 1) where
    judged_early : time < e.now → judged (checks p e (Commit time output)) ≡ refused 12
    unfolding checks judged or_next
    judged_early h = rw (le-ltb (horizon + 1) time a, lt-ltb time e.now h)

    module _ (b : e.now ≤ time) where
      judged_unrun : unrun_before time e.queue.held ≡ true → judged (checks p e (Commit time output)) ≡ refused 15
      unfolding checks judged or_next
      judged_unrun h = rw (le-ltb (horizon + 1) time a, le-ltb time e.now b, h)

      module _ (d : unrun_before time e.queue.held ≡ false) where
        judged_short : length output < 24 * length (logged time e.queue.held) → judged (checks p e (Commit time output)) ≡ refused 18
        unfolding checks judged or_next
        judged_short h = rw (le-ltb (horizon + 1) time a, le-ltb time e.now b, d, lt-ltb (length output) (24 * length (logged time e.queue.held)) h)

        pub judged_passed : 24 * length (logged time e.queue.held) ≤ length output → judged (checks p e (Commit time output)) ≡ accepted
        unfolding checks judged or_next
        judged_passed h = rw (le-ltb (horizon + 1) time a, le-ltb time e.now b, d, le-ltb (length output) (24 * length (logged time e.queue.held)) h)

-- ---- judging

module _ (time room : ℕ) (xs : List ℕ) where
  abbrev Says : Refusal → Type 0
  Says r = JudgesCommit time room xs (Err r)

  refuses : (r : Refusal) → ((output : List ℕ) → length output ≡ room → (p : Plan) (e : Engine) → Represents p e xs → judged (checks p e (Commit time output)) ≡ refused (number_of r))
      → Says r
  refuses r j output l = judges_refusal (Commit time output) r (record { says = j output l })

  pub says_late : horizon + 1 < time → Says Late
  says_late h = refuses Late (λ output l p e R. judged_late p e time output h)

  pub says_early : time ≤ horizon + 1 → time < load_at 8 16 xs → Says Early
  says_early a h = refuses Early (λ output l p e R. judged_early p e time output a (rw R.now at h))

  module _ {n c : ℕ} (s : n ≡ at_most 256 (load_at 8 0 xs)) (k : c ≡ at_most 4096 (load_at 8 8 xs)) where
    -- what the bytes hold, by the numbers that are read
    pub holds_read : (p : Plan) (e : Engine) (R : Represents p e xs) → Holds p e.setting n c e.now xs e.queue R.cells
    holds_read p e R =
        let f = fits_read R s k in
        subst (λ (i : ℕ). Holds p e.setting n i e.now xs e.queue R.cells) f.1
        (subst (λ (i : ℕ). Holds p e.setting i e.setting.capacity e.now xs e.queue R.cells) f.0 R.holds)

    pub says_space : {r : Bool} → r ≡ fits_in n c (length xs) → r ≡ false → Says Space
    says_space {r} f z = refuses Space (λ output l p e R. absurd (unfit s k f z R))

    module _ (a : time ≤ horizon + 1) (b : load_at 8 16 xs ≤ time) where
      unrun_is : {v : Bool} → SaysEarly n c xs time v → (p : Plan) (e : Engine) → Represents p e xs → unrun_before time e.queue.held ≡ v
      unrun_is E p e R = sym (E p e.setting e.now e.queue R.cells (holds_read p e R))

      pub says_unrun : SaysEarly n c xs time true → Says Unrun
      says_unrun E = refuses Unrun (λ output l p e R. judged_unrun p e time output a (rw R.now at b) (unrun_is E p e R))

      module _ (E : SaysEarly n c xs time false) {count : ℕ} (C : Counts n c xs time count) where
        pub says_short : room < 24 * count → Says Output
        says_short h =
            refuses Output
            (λ output l p e R.
            let d = unrun_is E p e R in
            let z = C p e.setting e.now e.queue R.cells (holds_read p e R) d in
            judged_short p e time output a (rw R.now at b) d (omega (arith, l, h, z)))

        pub says_accepted : 24 * count ≤ room → JudgesCommit time room xs (Ok (record { n = n; c = c; count = count }))
        says_accepted h output l = record {
          number = record {
            says = λ p e R.
                let d = unrun_is E p e R in
                let z = C p e.setting e.now e.queue R.cells (holds_read p e R) d in
                judged_passed p e time output a (rw R.now at b) d (omega (arith, l, h, z));
          };
          found = λ f q.
              let z : ◌≡◌ {A = Front} (record { n = n; c = c; count = count }) f = cc in
              rw (← z) (record { stations = s; capacity = k; in_time = a; due = b; none_is_unrun = E; counts = C; room_is = h });
        }
