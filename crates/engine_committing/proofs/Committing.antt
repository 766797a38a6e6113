-- An accepted commit writes the log's front, and its time is the commit time.
use mathlib.Core.Path.{◌≡◌, refl, sym, ap, ◌∙◌, subst}
use mathlib.Core.Logic.{◌≢◌}
use mathlib.Core.Bool.{false}
use mathlib.Core.List.Memᴰ
use mathlib.Core.List.{List, [], ◌∷◌, ◌++◌}
use Prim.Native.Nat.{ℕ, ◌+◌, ◌*◌, ◌≤◌, ◌<◌}
use native.Mathlib.Omega.{arith}
use lib.ListN.{length, drop}
use Rattle.std.specs.Prelude.{Ok, Err}
use Rattle.refusal.specs.declared.Refusal.{Refusal}
use Rattle.refusal.specs.Tests.{horizon}
use Rattle.words.specs.Le.{load_at, store_at}
use Rattle.line.specs.Station.{Plan}
use Rattle.rules.specs.Held.{Held, event, In, unrun_before, logged, kept}
use Rattle.rules.specs.Engine.{Engine, Commit, Answer, Refused, Committed}
use Rattle.entry.specs.Entry.{entries}
use Rattle.rules.specs.Calls.{committed, Answers, commit, at_commit}
use Rattle.engine_index.specs.Represents.{Cell}
use Rattle.engine_events.specs.Represents.{held_of, Holds}
use Rattle.engine_events.specs.Promises.{AfterHeader}
use Rattle.engine_moves.specs.Promises.{Raises}
use Rattle.engine_promises.specs.Represents.{Represents}
use Rattle.engine_promises.specs.Answers.{commit_said}
use Rattle.engine_promises.specs.Promises.{Commits}
use Rattle.engine_promises.specs.Steps.{at_most}
use Rattle.engine_committing.specs.declared.Front.{Front}
use Rattle.engine_committing.specs.Steps.{Early, Counts, events_of, Writes, JudgesCommit}
use Rattle.engine_promises.proofs.Invariant.{reached_next}
use Rattle.engine_promises.proofs.Refused.{refused_call}
use Rattle.engine_promises.proofs.Header.{header_frame, header_word, header_other, header_kept, header_holds, fits_read}
use Rattle.engine_committing.proofs.LogFront.{AllLate, Parted, parted, logged_front, kept_back, length_events}
use Rattle.engine_committing.proofs.CommitChecks.{judged_passed, holds_read}

late_in : (time : ℕ) (cells : List Cell) → AllLate time cells → (y : Held) → In y (held_of cells) → time ≤ (event y).time
late_in time [] l y m = elim m [ ]
late_in time (z ∷ cells) l y (Memᴰ.head e) = rw e l.0
late_in time (z ∷ cells) l y (Memᴰ.tail m) = late_in time cells l.1 y m

-- xs at entry, ys with the front written, zs with the new time in the header, ws at exit
module _ (time : ℕ) (xs output : List ℕ) {n c : ℕ} (s : n ≡ at_most 256 (load_at 8 0 xs)) (k : c ≡ at_most 4096 (load_at 8 8 xs)) (count : ℕ)
    {ys left zs ws : List ℕ} (a : time ≤ horizon + 1) (b : load_at 8 16 xs ≤ time) (E : Early n c xs time false) (C : Counts n c xs time count)
    (o : 24 * count ≤ length output) (F : AfterHeader xs ys) (W : Writes n c xs count output ys left) (P : zs ≡ store_at 8 16 time ys) (G : AfterHeader zs ws)
    (U : Raises n c time zs ws) where
  module _ (p : Plan) (e : Engine) (R : Represents p e xs) where
    H : Holds p e.setting n c e.now xs e.queue R.cells
    H = holds_read time (length output) xs s k p e R

    none : unrun_before time e.queue.held ≡ false
    none = sym (E p e.setting e.now e.queue R.cells H)

    parts : Parted time R.cells
    parts = parted time R.cells H.stores.stands.sorted (rw H.stores.held none)

    whole : Holds p e.setting n c e.now xs e.queue (parts.front ++ parts.back)
    whole = subst (Holds p e.setting n c e.now xs e.queue) parts.is H

    log : logged time e.queue.held ≡ events_of parts.front
    log = ap (logged time) (sym whole.stores.held) ∙ logged_front time parts.front parts.back parts.early parts.late

    rest : kept time e.queue.held ≡ held_of parts.back
    rest = ap (kept time) (sym whole.stores.held) ∙ kept_back time parts.front parts.back parts.early parts.late

    counted : count ≡ length (logged time e.queue.held)
    counted = C p e.setting e.now e.queue R.cells H none

    now_before : e.now ≤ time
    now_before = rw R.now at b

    -- ---- the answer

    abbrev after : Engine
    after = at_commit e time

    -- what is left of the queue
    abbrev Left : ℕ → ℕ → ℕ → List ℕ → Type 0
    Left m d now bytes = Holds p e.setting m d now bytes (record { states = e.queue.states; held = held_of parts.back }) parts.back

    written : Left n c e.now ys × (left ≡ entries (events_of parts.front) ++ drop (24 * count) output)
    written =
        W p e.setting e.now e.queue parts.front parts.back R.range whole parts.run (sym (counted ∙ ap length log ∙ length_events parts.front)) o

    said : committed (logged time e.queue.held) output ≡ Committed count left
    said =
        let l : left ≡ entries (logged time e.queue.held) ++ drop (24 * length (logged time e.queue.held)) output = rw (← counted, log) written.1 in
        rw (l, ← counted)

    answers : Answers p e (Commit time output) (Committed count left) after
    answers =
        subst (λ (r : Answer). Answers p e (Commit time output) r after) said
        (commit (judged_passed p e time output a now_before none (rw counted at o)))

    -- ---- the bytes

    long : 64 ≤ length ys
    long = omega (arith, written.0.stores.long)

    raised : Left n c time ws
    raised =
        let B : Left n c e.now zs = subst (Left n c e.now) (sym P) (header_holds (header_frame 2 time ys (omega arith)) written.0) in
        U p e.setting e.now _ parts.back B now_before (omega arith) (late_in time parts.back parts.late)

    -- each other word of the header is as it was
    word : (i : ℕ) → i < 8 → 2 ≢ i → load_at 8 (8 * i) ws ≡ load_at 8 (8 * i) xs
    word i l d = header_kept G i l ∙ ap (load_at 8 (8 * i)) P ∙ header_other 2 i time ys d ∙ header_kept F i l

    represents : Represents p after ws
    represents =
        let f = fits_read R s k in
        let A : Left p.count c time ws = subst (λ (i : ℕ). Left i c time ws) (sym f.0) raised in
        let B : Left p.count e.setting.capacity time ws = subst (λ (i : ℕ). Left p.count i time ws) (sym f.1) A in
        record {
          range = R.range;
          reached = reached_next R.reached answers refl;
          stations = word 0 (omega arith) (λ z. omega arith) ∙ R.stations;
          capacity = word 1 (omega arith) (λ z. omega arith) ∙ R.capacity;
          now = header_kept G 2 (omega arith) ∙ ap (load_at 8 16) P ∙ header_word 2 time ys (omega arith) long (omega arith);
          next = word 3 (omega arith) (λ z. omega arith) ∙ R.next;
          cells = parts.back;
          holds = rw rest B;
        }

  commit_done : Commits (Commit time) (commit_said (Ok count)) xs ws output left
  commit_done = record {
    answered = record {
      refusal = λ i z. absurd (other z);
      answer = λ p e R. record { after = after p e R; answers = answers p e R; represents = represents p e R };
    };
    refusal = λ i z. absurd (other z);
  }
    where
      other : {i : ℕ} → Committed count left ≡ Refused i → ⊥
      other z = let y : ◌≡◌ {A = ℕ} 0 1 = cc in omega arith

-- ---- the call

module _ {time : ℕ} {xs output : List ℕ} where
  pub commit_refusal : {r : Refusal} → JudgesCommit time (length output) xs (Err r) → Commits (Commit time) (commit_said (Err r)) xs xs output output
  commit_refusal J = record { answered = refused_call (Commit time output) (J output refl); refusal = λ i z. refl }

  pub commit_accepted : {f : Front} → JudgesCommit time (length output) xs (Ok f) → {ys left zs ws : List ℕ} → AfterHeader xs ys
      → Writes f.n f.c xs f.count output ys left → zs ≡ store_at 8 16 time ys → AfterHeader zs ws → Raises f.n f.c time zs ws
      → Commits (Commit time) (commit_said (Ok f.count)) xs ws output left
  commit_accepted {f} J F W P G U =
      let a = (J output refl).found f refl in
      commit_done time xs output a.stations a.capacity f.count a.in_time a.due a.none_is_unrun a.counts a.room_is F W P G U
