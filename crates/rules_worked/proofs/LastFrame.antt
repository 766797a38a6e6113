-- The last frame heard (document 02, change 7): short lists of calls with their records, worked out by hand. The stations are those of the bench program's
-- worked list, so that the draws are 1, 16807, 282475249.
use mathlib.Core.Path.{refl}
use mathlib.Core.Bool.{Bool, true, false}
use mathlib.Core.List.{List, [], ◌∷◌, ◌++◌}
use Prim.Native.Nat.{ℕ}
use Rattle.words.specs.Le.{bytes_of}
use Rattle.refusal.specs.Tests.{or_next, judged}
use Rattle.generator.specs.Draw.{next_draw}
use Rattle.line.specs.declared.Config.{Config}
use Rattle.line.specs.declared.Matter.TheVariants.{Read, Frame, Level}
use Rattle.line.specs.Event.{posted, decide, lex, before}
use Rattle.line.specs.Matter.{frame_of, matter_of}
use Rattle.line.specs.Station.{parent_out, number_out, update, initial, send, silent, period, run_read, drawn_state, lose, hear, repeat, pass, run_frame, run_level, run_matter, run_at, run_event}
use Rattle.calendar_ring.specs.WordsRead.{none_in, words_from, words_read}
use Rattle.rules.specs.Held.{same, delete, place, least_unrun, mark, time_of, registered, as_time, registered_from, is_run, undone, held_post, none_unrun, unrun_before, logged, kept, record_of}
use Rattle.rules.specs.Engine.{Setting, chosen, opened, Call, Post, Retract, RunStation, RunLowest, Commit, Record, Answer, Posted, Retracted, Ran, RanLowest, Committed, Recorded}
use Rattle.rules.specs.Checks.{checks}
use Rattle.entry.specs.Entry.{entry, entries}
use Rattle.rules.specs.Calls.{post_of, with, lowest_words}
use Rattle.rules.specs.Executable.{runs, beyond, or_this, latest, remove_each, undo_found, undo_within, undo_from, removing, adding, add_all, run_least}
use Rattle.rules.proofs.Calls.Compute.{settle, post_step, retract_step, run_step, station_step, lowest_of, counting, counting_step, commit_step, answer_to, answers_to}
use Rattle.rules_worked.proofs.Check.{nth, all_in, in_range, at, zeros, pairs, Gives, computed}
use Rattle.rules_worked.proofs.Bench as bench

-- ---- the stations

abbrev station : ℕ → Config
station noise = record { parent = 0; calm = 1000; spring = 200; threshold = 5000; hop = 30; noise = noise; seed = 1 }

-- two that lose no frame, and two of which each loses its first
quiet : List Config
quiet = station 0 ∷ station 0 ∷ []

noisy : List Config
noisy = station 16807 ∷ station 16807 ∷ []

abbrev small : Setting
small = chosen 16 64 8

-- a record of heard, lost and sent, where the level is 0
abbrev is : ℕ → ℕ → ℕ → ℕ → ℕ → Bool → Answer
is draw heard lost sent last reached =
    Recorded (record { draw = draw; level = 0; heard = heard; lost = lost; sent = sent; last = last; reached = reached })

abbrev never : Answer
never = is 1 0 0 0 0 false

-- a posted frame of station 0, and its entry
abbrev frame : ℕ → ℕ → Call
frame station time = Post station time 2 0

abbrev logs : ℕ → ℕ → ℕ → List ℕ
logs time station number = entry (at time station posted number (Frame 0 0))

-- ---- heard at time 0: the time stays 0, and no becomes yes

at_0 : List Call
at_0 = frame 0 0 ∷ Record 0 ∷ RunLowest ∷ Record 0 ∷ Commit 1 (zeros 24) ∷ Record 0 ∷ Record 1 ∷ []

at_0_gets : List Answer
at_0_gets = Posted 0 0 ∷ never ∷ RanLowest 0 0 2 ∷ never ∷ Committed 1 (logs 0 0 0) ∷ is 16807 1 0 0 0 true ∷ never ∷ []

-- ---- frames at 20 and 50; the second is taken back

taken_back : List Call
taken_back =
    frame 0 20 ∷ frame 0 50 ∷ RunLowest ∷ RunLowest ∷ Commit 21 (zeros 24) ∷ Record 0 ∷ Retract 1 ∷ Commit 51 [] ∷ Record 0 ∷ []

taken_back_gets : List Answer
taken_back_gets =
    Posted 0 0 ∷ Posted 1 0 ∷ RanLowest 0 0 2 ∷ RanLowest 0 0 2 ∷ Committed 1 (logs 20 0 0) ∷ is 16807 1 0 0 20 true ∷ Retracted 1 ∷ Committed 0 []
    ∷ is 16807 1 0 0 20 true ∷ []

-- ---- one at 20 comes late, after one at 50 has run: in the event order the last is at 50

late : List Call
late = frame 0 50 ∷ RunLowest ∷ frame 0 20 ∷ RunLowest ∷ RunLowest ∷ Commit 21 (zeros 24) ∷ Record 0 ∷ Commit 51 (zeros 24) ∷ Record 0 ∷ []

late_gets : List Answer
late_gets =
    Posted 0 0 ∷ RanLowest 0 0 2 ∷ Posted 1 1 ∷ RanLowest 0 0 2 ∷ RanLowest 0 0 2 ∷ Committed 1 (logs 20 0 1) ∷ is 16807 1 0 0 20 true ∷ Committed 1 (logs 50 0 0)
    ∷ is 282475249 2 0 0 50 true ∷ []

-- ---- one at 7 is lost and heard when it is repeated, at 37

lost : List Call
lost = frame 0 7 ∷ RunLowest ∷ Commit 8 (zeros 24) ∷ Record 0 ∷ RunLowest ∷ Commit 38 (zeros 24) ∷ Record 0 ∷ []

lost_gets : List Answer
lost_gets =
    Posted 0 0 ∷ RanLowest 0 0 2 ∷ Committed 1 (logs 7 0 0) ∷ is 16807 0 1 1 0 false ∷ RanLowest 0 0 2 ∷ Committed 1 (entry (at 37 0 0 0 (Frame 0 1)))
    ∷ is 282475249 1 1 1 37 true ∷ []

-- ---- one that three repeats have not brought is given up

given_up : List Call
given_up = Post 0 7 2 768 ∷ RunLowest ∷ Commit 8 (zeros 24) ∷ Record 0 ∷ []

given_up_gets : List Answer
given_up_gets = Posted 0 0 ∷ RanLowest 0 0 2 ∷ Committed 1 (entry (at 7 0 posted 0 (Frame 0 3))) ∷ is 16807 0 1 0 0 false ∷ []

-- ---- each station on the way has its own, and a level or a reading at one that has heard leaves it

on_the_way : List Call
on_the_way =
    frame 1 5 ∷ Post 1 6 3 9 ∷ Post 1 8 1 0 ∷ RunStation 1 ∷ RunStation 1 ∷ RunStation 1 ∷ RunStation 0 ∷ Commit 36 (zeros 96) ∷ Record 1 ∷ Record 0 ∷ []

on_the_way_gets : List Answer
on_the_way_gets =
    Posted 0 0 ∷ Posted 1 0 ∷ Posted 2 0 ∷ Ran 1 0 ∷ Ran 1 0 ∷ Ran 1 0 ∷ Ran 0 0
    ∷ Committed 4 (entries (at 5 1 posted 0 (Frame 0 0) ∷ at 6 1 posted 1 (Level 9) ∷ at 8 1 posted 2 Read ∷ at 35 0 1 0 (Frame 0 0) ∷ []))
    ∷ Recorded (record { draw = 16807; level = 9; heard = 1; lost = 0; sent = 3; last = 5; reached = true }) ∷ is 16807 1 0 0 35 true ∷ []

-- ---- the bench program's worked list, with the records at its end

bench_calls : List Call
bench_calls = bench.calls ++ (Record 0 ∷ Record 1 ∷ [])

bench_gets : List Answer
bench_gets =
    bench.answers ++ (is 16807 1 0 0 30 true ∷ Recorded (record { draw = 1; level = 5000; heard = 0; lost = 0; sent = 4; last = 0; reached = false }) ∷ [])

-- ---- what the rules give

lists : Gives quiet small at_0 at_0_gets × Gives quiet small taken_back taken_back_gets × Gives quiet small late late_gets × Gives noisy small lost lost_gets
    × Gives noisy small given_up given_up_gets × Gives quiet small on_the_way on_the_way_gets × Gives quiet (chosen 16 64 64) bench_calls bench_gets
unfolding quiet noisy at_0 at_0_gets taken_back taken_back_gets late late_gets lost lost_gets given_up given_up_gets on_the_way on_the_way_gets
    bench_calls bench_gets bench.calls bench.answers all_in parent_out number_out nth pairs zeros
    settle post_step retract_step run_step station_step lowest_of counting counting_step lowest_words commit_step answer_to answers_to
    runs beyond or_this latest remove_each undo_found undo_within undo_from removing adding add_all run_least
    post_of with entry entries bytes_of checks or_next judged opened frame_of matter_of
    none_in words_from words_read time_of registered as_time registered_from
    same delete place least_unrun mark is_run undone held_post none_unrun unrun_before logged kept record_of
    decide lex before update initial send silent period run_read drawn_state lose hear repeat pass run_frame run_level run_matter run_at run_event next_draw
lists = (
  computed quiet small at_0 at_0_gets (in_range quiet tt tt tt) refl,
  computed quiet small taken_back taken_back_gets (in_range quiet tt tt tt) refl,
  computed quiet small late late_gets (in_range quiet tt tt tt) refl,
  computed noisy small lost lost_gets (in_range noisy tt tt tt) refl,
  computed noisy small given_up given_up_gets (in_range noisy tt tt tt) refl,
  computed quiet small on_the_way on_the_way_gets (in_range quiet tt tt tt) refl,
  computed quiet (chosen 16 64 64) bench_calls bench_gets (in_range quiet tt tt tt) refl,
)
