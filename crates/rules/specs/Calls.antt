-- What each call does and answers (document 01, "Engine calls").
use Rattle.std.specs.Prelude.{ℕ, suc, ◌*◌, ◌≡◌, List, ◌++◌, length, drop, Ok}
use Rattle.calendar_ring.specs.WordsRead.{words_read}
use Rattle.refusal.specs.Tests.{accepted, refused, judged}
use Rattle.line.specs.declared.Event.{Event}
use Rattle.line.specs.declared.Matter.{Matter}
use Rattle.line.specs.declared.State.{State}
use Rattle.line.specs.Event.{posted}
use Rattle.line.specs.Matter.{matter_of}
use Rattle.line.specs.Station.{Plan, update, run_event}
use Rattle.rules.specs.Held.{Queue, some, least_unrun, mark, registered_from, Lowest, undone, held_post, logged, kept, record_of}
use Rattle.rules.specs.Undo.{Does, Remove, Add, AddEach}
use Rattle.rules.specs.Engine.{Engine, Call, Post, Retract, RunStation, RunLowest, Commit, Record, Answer, Refused, Posted, Retracted, Ran, RanLowest, Committed, Recorded}
use Rattle.rules.specs.Checks.{checks}
use Rattle.entry.specs.Entry.{entries}

-- the event of a post
unfoldable pub post_of : ℕ → ℕ → ℕ → Matter → Event
post_of n s t m = record { time = t; target = s; source = posted; number = n; matter = m }

-- the engine with another queue
unfoldable pub with : Engine → Queue → Engine
with e q = record { setting = e.setting; next = e.next; now = e.now; queue = q }

-- the engine after a post that has left the queue q: the next post has the next number
abbrev pub after_post : Engine → Queue → Engine
after_post e q = record { setting = e.setting; next = suc e.next; now = e.now; queue = q }

-- the engine with the commit time c: it has dropped every event before c
abbrev pub at_commit : Engine → ℕ → Engine
at_commit e c = record { setting = e.setting; next = e.next; now = c; queue = record { states = e.queue.states; held = kept c e.queue.held } }

-- the queue in which the least unrun event x of its target is run
unfoldable pub running : Plan → Queue → Event → Queue
running p q x =
    let b : State = q.states x.target in
    record { states = update q.states x.target (run_event p b x).after; held = mark x.target b q.held }

-- how many bitmap words the calendar reads to name the lowest station: its floor is the commit time
unfoldable pub lowest_words : Plan → Engine → ℕ
lowest_words p e = words_read e.setting.arity e.setting.width e.now (registered_from e.queue.held 0 p.count)

-- the count of a commit's log, and its output with the log's entries in front
abbrev pub committed : List Event → List ℕ → Answer
committed log output = Committed (length log) (entries log ++ drop (24 * length log) output)

-- asked the call, the first engine gives the answer and becomes the second
pub data Answers (p : Plan) : Engine → Call → Answer → Engine → Type 0 where
  -- "A refusal answers its number, .. and changes nothing."
  refuse : {e : Engine} {c : Call} {n : ℕ} → judged (checks p e c) ≡ refused n → Answers p e c (Refused n) e
  -- "Post adds an unrun event and answers its number"
  post : {e : Engine} {s t kind value : ℕ} {m : Matter} {q : Queue}
      → judged (checks p e (Post s t kind value)) ≡ accepted
      → matter_of p.count kind value ≡ Ok m
      → Does p (Add (post_of e.next s t m)) e.queue q
      → Answers p e (Post s t kind value) (Posted e.next (undone e.queue.held q.held))
      (after_post e q)
  -- "retract removes a held post by number"
  retract : {e : Engine} {n : ℕ} {x : Event} {q : Queue}
      → judged (checks p e (Retract n)) ≡ accepted
      → held_post n e.queue.held ≡ some x
      → Does p (Remove x) e.queue q
      → Answers p e (Retract n) (Retracted (undone e.queue.held q.held)) (with e q)
  -- "Run station runs that station's least unrun event and adds its sends in order." It answers the station
  run : {e : Engine} {s : ℕ} {x : Event} {q : Queue}
      → judged (checks p e (RunStation s)) ≡ accepted
      → least_unrun s e.queue.held ≡ some x
      → Does p (AddEach (run_event p (e.queue.states x.target) x).sends) (running p e.queue x) q
      → Answers p e (RunStation s) (Ran s (undone e.queue.held q.held)) (with e q)
  -- "Run lowest does so for the station that the calendar names"; "A run lowest, refused or not, is judged for the station of least time that the
  -- calendar names then". It "passes the count on", that of the engine that it finds; "A refusal carries no count" (document 02, change 5)
  lowest : {e f : Engine} {s u : ℕ} → Lowest e.queue.held s → Answers p e (RunStation s) (Ran s u) f
      → Answers p e RunLowest (RanLowest s u (lowest_words p e)) f
  lowest_refused : {e f : Engine} {s n : ℕ} → Lowest e.queue.held s → Answers p e (RunStation s) (Refused n) f → Answers p e RunLowest (Refused n) f
  -- "Commit(c) writes every event before c, in order .. It drops them and sets the commit time to c .. It answers their count. Bytes behind the
  -- last are unchanged."
  commit : {e : Engine} {c : ℕ} {output : List ℕ}
      → judged (checks p e (Commit c output)) ≡ accepted
      → Answers p e (Commit c output) (committed (logged c e.queue.held) output)
      (at_commit e c)
  -- "Record answers a station's state as of the commit time."
  recorded : {e : Engine} {s : ℕ}
      → judged (checks p e (Record s)) ≡ accepted
      → Answers p e (Record s) (Recorded (record_of e.queue.states s e.queue.held)) e
