-- The calls as functions: an answer and the engine after it, computed. `Answered` says that they are the rules'.
use Prim.Native.Nat.{ℕ}
use mathlib.Core.List.{List, [], ◌∷◌}
use Rattle.std.specs.Prelude.{Ok, Err, Result}
use Rattle.refusal.specs.declared.Refusal.{Refusal}
use Rattle.refusal.specs.Tests.{Verdict, accepted, refused, judged}
use Rattle.line.specs.declared.Matter.{Matter}
use Rattle.line.specs.Matter.{matter_of}
use Rattle.line.specs.Station.{Plan}
use Rattle.rules.specs.Held.{Held, unrun, ran, Queue, Found, none, some, least_unrun, undone, held_post, logged, record_of}
use Rattle.rules.specs.Engine.{Engine, Call, Post, Retract, RunStation, RunLowest, Commit, Record, Answer, Refused, Posted, Retracted, Ran, RanLowest, Committed, Recorded}
use Rattle.rules.specs.Checks.{checks}
use Rattle.rules.specs.Calls.{post_of, with, lowest_words, committed, after_post, at_commit}
use Rattle.rules.specs.Demand.{Made}
use Rattle.rules.specs.Executable.{adding, removing, run_least}

pub record Step : Type 0 where
  pub answer : Answer
  pub engine : Engine

-- the step where the call is accepted
unfoldable pub settle : Verdict → Engine → Step → Step
settle accepted e done = done
settle (refused n) e done = record { answer = Refused n; engine = e }

unfoldable pub post_step : Plan → Engine → ℕ → ℕ → Result Matter Refusal → Step
post_step p e s t (Ok m) =
    let q : Queue = adding p e.queue (post_of e.next s t m) in
    record { answer = Posted e.next (undone e.queue.held q.held); engine = after_post e q }
post_step p e s t (Err r) = record { answer = Refused 10; engine = e }

unfoldable pub retract_step : Plan → Engine → Found → Step
retract_step p e none = record { answer = Refused 13; engine = e }
retract_step p e (some x) =
    let q : Queue = removing p e.queue x in
    record { answer = Retracted (undone e.queue.held q.held); engine = with e q }

unfoldable pub run_step : Plan → Engine → ℕ → Found → Step
run_step p e s none = record { answer = Refused 14; engine = e }
run_step p e s (some x) =
    let q : Queue = run_least p e.queue x in
    record { answer = Ran s (undone e.queue.held q.held); engine = with e q }

unfoldable pub station_step : Plan → Engine → ℕ → Step
station_step p e s = settle (judged (checks p e (RunStation s))) e (run_step p e s (least_unrun s e.queue.held))

-- the target of the first unrun event of all
unfoldable pub lowest_of : List Held → ℕ
lowest_of [] = 0
lowest_of (unrun x ∷ h) = x.target
lowest_of (ran x b ∷ h) = lowest_of h

-- run lowest: what run station answers for that station, with the count where it is run
unfoldable pub counting : ℕ → Answer → Answer
counting w (Refused n) = Refused n
counting w (Posted n u) = Posted n u
counting w (Retracted u) = Retracted u
counting w (Ran s u) = RanLowest s u w
counting w (RanLowest s u v) = RanLowest s u v
counting w (Committed n output) = Committed n output
counting w (Recorded st) = Recorded st

unfoldable pub counting_step : ℕ → Step → Step
counting_step w d = record { answer = counting w d.answer; engine = d.engine }

unfoldable pub commit_step : Engine → ℕ → List ℕ → Step
commit_step e c output = record {
  answer = committed (logged c e.queue.held) output;
  engine = at_commit e c;
}

unfoldable pub answer_to : Plan → Engine → Call → Step
answer_to p e (Post s t kind value) = settle (judged (checks p e (Post s t kind value))) e (post_step p e s t (matter_of p.count kind value))
answer_to p e (Retract n) = settle (judged (checks p e (Retract n))) e (retract_step p e (held_post n e.queue.held))
answer_to p e (RunStation s) = station_step p e s
answer_to p e RunLowest =
    settle (judged (checks p e RunLowest)) e (counting_step (lowest_words p e) (station_step p e (lowest_of e.queue.held)))
answer_to p e (Commit c output) = settle (judged (checks p e (Commit c output))) e (commit_step e c output)
answer_to p e (Record s) = settle (judged (checks p e (Record s))) e (record { answer = Recorded (record_of e.queue.states s e.queue.held); engine = e })

-- the answers to a list of calls
unfoldable pub answers_to : Plan → Engine → List Call → List Made
answers_to p e [] = []
answers_to p e (c ∷ cs) =
    let d : Step = answer_to p e c in
    record { asked = c; said = d.answer } ∷ answers_to p d.engine cs

-- and the engine after them
unfoldable pub left_by : Plan → Engine → List Call → Engine
left_by p e [] = e
left_by p e (c ∷ cs) = left_by p (answer_to p e c).engine cs
