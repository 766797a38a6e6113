-- Demand 3: what a list of calls feeds the plain machine, and what is held against it (document 01, "Plain machine").
use Rattle.std.specs.Prelude.{ℕ, ◌+◌, ◌*◌, ◌≡◌, Bool, true, false, cond, ◌||◌, List, [], ◌∷◌, ◌++◌, eqb, length, take, Ok, Err, Result}
use Rattle.refusal.specs.declared.Refusal.{Refusal}
use Rattle.line.specs.declared.Matter.{Matter}
use Rattle.line.specs.declared.Event.{Event}
use Rattle.line.specs.declared.State.{State}
use Rattle.line.specs.Matter.{matter_of}
use Rattle.line.specs.Station.{Plan}
use Rattle.rules.specs.Machine.{Machine, start, Runs}
use Rattle.rules.specs.Engine.{Engine, Call, Post, Retract, RunStation, RunLowest, Commit, Record, Answer, Refused, Posted, Retracted, Ran, RanLowest, Committed, Recorded}
use Rattle.entry.specs.Entry.{entries}
use Rattle.rules.specs.Calls.{post_of, Answers}

-- a call and its answer
pub record Made : Type 0 where
  pub asked : Call
  pub said : Answer

-- calls made one after the other, refused ones among them
pub data Calls (p : Plan) : Engine → List Made → Engine → Type 0 where
  end : {e : Engine} → Calls p e [] e
  next : {e f g : Engine} {m : Made} {ms : List Made} → Answers p e m.asked m.said f → Calls p f ms g → Calls p e (m ∷ ms) g

abbrev pub is_refused : Answer → Bool
is_refused (Refused n) = true
is_refused (Posted n u) = false
is_refused (Retracted u) = false
is_refused (Ran s u) = false
is_refused (RanLowest s u w) = false
is_refused (Committed n o) = false
is_refused (Recorded st) = false

-- ---- what the machine is fed

abbrev pub posting : ℕ → ℕ → ℕ → Result Matter Refusal → List Event
posting n s t (Ok m) = post_of n s t m ∷ []
posting n s t (Err r) = []

-- the event of a call that is a post, with the number n
unfoldable pub post_in : Plan → ℕ → Call → List Event
post_in p n (Post s t kind value) = posting n s t (matter_of p.count kind value)
post_in p n (Retract k) = []
post_in p n (RunStation s) = []
post_in p n RunLowest = []
post_in p n (Commit c output) = []
post_in p n (Record s) = []

-- "the accepted posts, numbered 0, 1, 2, .. in their order": those of the list, from the number n on
unfoldable pub posts : Plan → ℕ → List Made → List Event
posts p n [] = []
posts p n (m ∷ ms) =
    let xs : List Event = cond (is_refused m.said) [] (post_in p n m.asked) in
    xs ++ posts p (n + length xs) ms

-- the number that a call that is a retract names
unfoldable pub named_in : Call → List ℕ
named_in (Post s t kind value) = []
named_in (Retract n) = n ∷ []
named_in (RunStation s) = []
named_in RunLowest = []
named_in (Commit c output) = []
named_in (Record s) = []

-- the numbers that the accepted retracts name
unfoldable pub retracted : List Made → List ℕ
retracted [] = []
retracted (m ∷ ms) = cond (is_refused m.said) [] (named_in m.asked) ++ retracted ms

unfoldable pub among : ℕ → List ℕ → Bool
among n [] = false
among n (k ∷ ks) = eqb n k || among n ks

-- the events whose number is not among these
unfoldable pub without : List ℕ → List Event → List Event
without ns [] = []
without ns (x ∷ xs) = cond (among x.number ns) (without ns xs) (x ∷ without ns xs)

-- "the accepted posts .. without those whose number an accepted retract names"
unfoldable pub fed : Plan → List Made → List Event
fed p ms = without (retracted ms) (posts p 0 ms)

-- "Its commit time is that of the list's last accepted commit, 0 where there is none": here with the time so far
unfoldable pub time_in : ℕ → Call → ℕ
time_in now (Post s t kind value) = now
time_in now (Retract n) = now
time_in now (RunStation s) = now
time_in now RunLowest = now
time_in now (Commit c output) = c
time_in now (Record s) = now

unfoldable pub last_commit : ℕ → List Made → ℕ
last_commit now [] = now
last_commit now (m ∷ ms) = last_commit (cond (is_refused m.said) now (time_in now m.asked)) ms

-- ---- what is held against the machine

-- "The log of an accepted commit is the first 24 times its count bytes of its output, as that call left them."
unfoldable pub log_in : Answer → List ℕ
log_in (Refused n) = []
log_in (Posted n u) = []
log_in (Retracted u) = []
log_in (Ran s u) = []
log_in (RanLowest s u w) = []
log_in (Committed n output) = take (24 * n) output
log_in (Recorded st) = []

-- the logs of the accepted commits, joined
unfoldable pub logs : List Made → List ℕ
logs [] = []
logs (m ∷ ms) = log_in m.said ++ logs ms

-- the machine that is fed the list comes to k
abbrev pub Comes : Plan → List Made → Machine → Type 0
Comes p ms k = Runs p (last_commit 0 ms) (start p (fed p ms)) k

-- demand 3 of a list of calls after an opening. That every answer and acceptance is the rules' is what `Calls` says of the list
pub record Demand (p : Plan) (ms : List Made) : Type 0 where
  pub machine : Machine
  pub comes : Comes p ms machine
  -- "The machine's log is compared with each event written in the 24 bytes that commit uses."
  pub log_is : logs ms ≡ entries machine.log
  -- each record is the state of the machine that is fed the calls before it
  pub records_are : (bs : List Made) (s : ℕ) (st : State) (cs : List Made)
      → ms ≡ bs ++ (record { asked = Record s; said = Recorded st } ∷ cs)
      → (k : Machine) × Comes p bs k × (st ≡ k.states s)
