-- Demand 3 over the rules: for every list of calls after an opening, refused ones among them, the joined logs are the plain machine's log, and each
-- record is that machine's state.
use mathlib.Core.Path.{◌≡◌, refl, sym, ap, ◌∙◌, subst}
use mathlib.Core.Bool.{cond}
use mathlib.Core.List.{List, [], ◌∷◌, ◌++◌, append-nil, append_assoc}
use Prim.Native.Nat.{ℕ, ◌+◌}
use native.Mathlib.Omega.{arith}
use lib.ListN.{length}
use Rattle.line.specs.declared.Event.{Event}
use Rattle.line.specs.declared.State.{State}
use Rattle.line.specs.Station.{Plan, InRange}
use Rattle.rules.specs.Machine.{Machine, start, Runs}
use Rattle.rules.specs.Held.{record_of}
use Rattle.rules.specs.Engine.{Setting, Engine, opened, Record, Answer, Recorded}
use Rattle.entry.specs.Entry.{entries}
use Rattle.rules.specs.Calls.{Answers, refuse, recorded}
use Rattle.rules.specs.Demand.{Made, Calls, end, next, is_refused, post_in, posts, named_in, retracted, without, fed, time_in, last_commit, log_in, logs, Comes, Demand}
use Rattle.rules.proofs.Machine.Sorted.{sorted_start, SortedRuns}
use Rattle.rules.proofs.Calls.Commit.{record_is}
use Rattle.rules.specs.Replay.{Strict}
use Rattle.rules.proofs.Machine.Plain.{in_order, Ready, from_order, one_result, halts_plain}
use Rattle.rules.proofs.Calls.Invariant.{Inv, opened_inv, fed_keyed, fed_inside, held_neat}
use Rattle.rules.proofs.Calls.Step.{Next, call_next}

module _ (p : Plan) (S : InRange p) where
  -- ---- every list of calls keeps the invariant

  abbrev Added : Engine → List Event → List ℕ → List ℕ → List Made → Engine → Type 0
  Added e ps gone log ms f = Inv p f (ps ++ posts p e.next ms) (gone ++ retracted ms) (log ++ logs ms) × (f.now ≡ last_commit e.now ms)

  calls_add : {e f : Engine} {ms : List Made} (ps : List Event) (gone log : List ℕ) → Calls p e ms f → Inv p e ps gone log → Added e ps gone log ms f
  unfolding posts retracted logs last_commit
  calls_add ps gone log end i = (rw (append-nil ps, append-nil gone, append-nil log) i, refl)
  calls_add ps gone log (next {e = e} {f = f} {g = g} {m = m} {ms = ms} d c) i =
      joined (call_next p S ps gone log d i) (λ n. calls_add (ps ++ xs) (gone ++ ks) (log ++ log_in m.said) c n.inv)
    where
      xs : List Event
      xs = cond (is_refused m.said) [] (post_in p e.next m.asked)

      ks : List ℕ
      ks = cond (is_refused m.said) [] (named_in m.asked)

      joined : Next p e f m.asked m.said ps gone log
          → (Next p e f m.asked m.said ps gone log → Added f (ps ++ xs) (gone ++ ks) (log ++ log_in m.said) ms g)
          → Inv p g (ps ++ (xs ++ posts p (e.next + length xs) ms)) (gone ++ (ks ++ retracted ms)) (log ++ (log_in m.said ++ logs ms)) × (g.now ≡ last_commit (cond (is_refused m.said) e.now (time_in e.now m.asked)) ms)
      joined n ih =
          let r = ih n in
          (rw (sym (append_assoc ps xs (posts p (e.next + length xs) ms)), sym (append_assoc gone ks (retracted ms)), sym (append_assoc log (log_in m.said) (logs ms)), sym n.number) r.0, r.1 ∙ ap (λ t. last_commit t ms) n.time)

  -- an engine that an opening and a list of calls have left
  pub after_calls : (setting : Setting) {ms : List Made} {f : Engine} → Calls p (opened p setting) ms f
      → Inv p f (posts p 0 ms) (retracted ms) (logs ms) × (f.now ≡ last_commit 0 ms)
  unfolding opened
  after_calls setting c = calls_add [] [] [] c (opened_inv p setting)

  -- no two held events have one key: they are in strict order
  pub held_strict : (setting : Setting) {ms : List Made} {f : Engine} → Calls p (opened p setting) ms f → Strict f.queue.held
  held_strict setting {ms} {f} c = (held_neat p S f (posts p 0 ms) (retracted ms) (logs ms) (after_calls setting c).0).strict

  -- ---- the plain machine of specs/Machine

  pub fed_ready : (e : Engine) (ps : List Event) (gone log : List ℕ) → Inv p e ps gone log → Ready p S (start p (without gone ps))
  unfolding start
  fed_ready e ps gone log i = record { keyed = fed_keyed p S e ps gone log i; inside = fed_inside p S e ps gone log i }

  -- it comes to the state that the invariant names
  pub record Reached (ms : List Made) (f : Engine) : Type 0 where
    pub machine : Machine
    pub comes : Comes p ms machine
    pub log_is : logs ms ≡ entries machine.log
    pub record_is_state : (s : ℕ) → record_of f.queue.states s f.queue.held ≡ machine.states s

  pub reached : (setting : Setting) {ms : List Made} {f : Engine} → Calls p (opened p setting) ms f → Reached ms f
  unfolding fed start sorted_start
  reached setting {ms} {f} c = record {
    machine = k.0;
    comes = k.1;
    log_is = sym i.log_is ∙ ap (λ m. entries m.log) (sym k.2);
    record_is_state = λ s. record_is p i.machine.waiting i.machine.states f.queue.states f.queue.held i.ok.replay s ∙ ap (λ m. m.states s) (sym k.2);
  }
    where
      i : Inv p f (posts p 0 ms) (retracted ms) (logs ms)
      i = (after_calls setting c).0

      k : (n : Machine) × Comes p ms n × (in_order n ≡ i.machine)
      k =
          from_order p S (start p (fed p ms)) (fed_ready f (posts p 0 ms) (retracted ms) (logs ms) i)
          (subst (λ t. SortedRuns p t (sorted_start p (fed p ms)) i.machine) (after_calls setting c).1 i.steps)

  -- ---- a record in the middle of the list

  record CallsSplit (e : Engine) (bs : List Made) (m : Made) (f : Engine) : Type 0 where
    before : Engine
    after : Engine
    calls : Calls p e bs before
    answer : Answers p before m.asked m.said after

  split : {e f : Engine} (bs : List Made) (m : Made) (cs : List Made) → Calls p e (bs ++ (m ∷ cs)) f → CallsSplit e bs m f
  split [] m cs (next {e = e} {f = f} d c) = record { before = e; after = f; calls = end; answer = d }
  split (b ∷ bs) m cs (next d c) = let r = split bs m cs c in record { before = r.before; after = r.after; calls = next d r.calls; answer = r.answer }

  record_answer : {e f : Engine} {s : ℕ} {a : Answer} → Answers p e (Record s) a f → (st : State) → a ≡ Recorded st
      → st ≡ record_of e.queue.states s e.queue.held
  record_answer (refuse j) st k = let z : ◌≡◌ {A = ℕ} 0 1 = cc in absurd (omega arith)
  record_answer (recorded j) st k = cc

  -- ---- demand 3

  pub demand : (setting : Setting) {ms : List Made} {f : Engine} → Calls p (opened p setting) ms f → Demand p ms
  demand setting {ms} {f} c = record { machine = r.machine; comes = r.comes; log_is = r.log_is; records_are = records }
    where
      r : Reached ms f
      r = reached setting c

      records : (bs : List Made) (s : ℕ) (st : State) (cs : List Made) → ms ≡ bs ++ (record { asked = Record s; said = Recorded st } ∷ cs)
          → (k : Machine) × Comes p bs k × (st ≡ k.states s)
      records bs s st cs e =
          let d = split bs (record { asked = Record s; said = Recorded st }) cs (subst (λ l. Calls p (opened p setting) l f) e c) in
          let q = reached setting d.calls in
          (q.machine, q.comes, record_answer d.answer st refl ∙ q.record_is_state s)

  -- the machine has one result, so there is no other log and no other record
  pub one_machine : (setting : Setting) {ms : List Made} {f : Engine} → Calls p (opened p setting) ms f → (m n : Machine) → Comes p ms m
      → Comes p ms n → m ≡ n
  unfolding fed
  one_machine setting {ms} {f} c m n a b = one_result p S (fed_ready f (posts p 0 ms) (retracted ms) (logs ms) (after_calls setting c).0) a b

  -- and it has a result at every time
  pub some_machine : (setting : Setting) {ms : List Made} {f : Engine} → Calls p (opened p setting) ms f → (t : ℕ)
      → (m : Machine) × Runs p t (start p (fed p ms)) m
  unfolding fed
  some_machine setting {ms} {f} c t =
      halts_plain p S t (start p (without (retracted ms) (posts p 0 ms)))
      (fed_ready f (posts p 0 ms) (retracted ms) (logs ms) (after_calls setting c).0)
