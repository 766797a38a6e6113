-- Bitmap words read (document 02, changes 5 and 9): short lists at leaf width 1, where a block of arity 16 is 256 ms and the ring 4096, worked out by hand.
-- The plan is that of the bench program's worked list.
use mathlib.Core.Path.{refl}
use mathlib.Core.List.{List, [], ◌∷◌, ◌++◌}
use Rattle.words.specs.Le.{bytes_of}
use Rattle.refusal.specs.Tests.{or_next, judged}
use Rattle.generator.specs.Draw.{next_draw}
use Rattle.line.specs.declared.Matter.TheVariants.{Read, Frame, Level}
use Rattle.line.specs.Event.{posted, decide, lex, before}
use Rattle.line.specs.Matter.{frame_of, matter_of}
use Rattle.line.specs.Station.{parent_out, number_out, update, initial, send, silent, period, run_read, drawn_state, lose, hear, repeat, pass, run_frame, run_level, run_matter, run_at, run_event}
use Rattle.calendar_ring.specs.WordsRead.{none_in, words_from, words_read}
use Rattle.rules.specs.Held.{same, delete, place, least_unrun, mark, time_of, registered, as_time, registered_from, is_run, undone, none_unrun, unrun_before, logged, kept}
use Rattle.rules.specs.Engine.{Setting, chosen, opened, Call, Post, RunLowest, Commit, Answer, Refused, Posted, RanLowest, Committed}
use Rattle.rules.specs.Checks.{checks}
use Rattle.entry.specs.Entry.{entry, entries}
use Rattle.rules.specs.Calls.{post_of, with, lowest_words}
use Rattle.rules.specs.Executable.{runs, beyond, or_this, latest, remove_each, undo_found, undo_within, undo_from, removing, adding, add_all, run_least}
use Rattle.rules.proofs.Calls.Compute.{settle, post_step, run_step, station_step, lowest_of, counting, counting_step, commit_step, answer_to, answers_to}
use Rattle.rules_worked.proofs.Check.{nth, all_in, in_range, at, zeros, pairs, Gives, computed}
use Rattle.rules_worked.proofs.Bench.{station, plan, calls}

abbrev narrow : Setting
narrow = chosen 16 1 64

-- ---- the bench program's worked list: its runs are at 0, 30, 1000, 500 and 1000, in the blocks 0, 0, 3, 1 and 3

bench_gets : List Answer
bench_gets =
    Posted 0 0 ∷ RanLowest 1 0 2 ∷ RanLowest 0 0 2 ∷ RanLowest 1 0 5 ∷ Posted 1 1 ∷ RanLowest 1 0 3 ∷ RanLowest 1 0 5
    ∷ Committed 4 (entries (at 0 1 posted 0 Read ∷ at 30 0 1 1 (Frame 1 0) ∷ at 500 1 posted 1 (Level 5000) ∷ at 1000 1 1 0 Read ∷ []) ++ zeros 1440) ∷ []

-- the same at arity 8, where a block is 64 ms: the blocks 0, 0, 15, 7 and 15

abbrev small : Setting
small = chosen 8 1 64

small_gets : List Answer
small_gets =
    Posted 0 0 ∷ RanLowest 1 0 2 ∷ RanLowest 0 0 2 ∷ RanLowest 1 0 17 ∷ Posted 1 1 ∷ RanLowest 1 0 9 ∷ RanLowest 1 0 17
    ∷ Committed 4 (entries (at 0 1 posted 0 Read ∷ at 30 0 1 1 (Frame 1 0) ∷ at 500 1 posted 1 (Level 5000) ∷ at 1000 1 1 0 Read ∷ []) ++ zeros 1440) ∷ []

-- ---- a level at 4900, in block 19: the ring ends at 4096 and, from the commit time 1001 on, at 4864; 1024 is in block 4, whose ring has it last

late : List Call
late = Post 0 4900 3 1 ∷ RunLowest ∷ []

late_gets : List Answer
late_gets = Posted 0 0 ∷ RanLowest 0 0 16 ∷ []

later : List Call
later = Post 0 4900 3 1 ∷ Commit 1001 [] ∷ RunLowest ∷ []

later_gets : List Answer
later_gets = Posted 0 0 ∷ Committed 0 [] ∷ RanLowest 0 0 16 ∷ []

covered : List Call
covered = Post 0 4900 3 1 ∷ Commit 1001 [] ∷ Commit 1024 [] ∷ RunLowest ∷ []

covered_gets : List Answer
covered_gets = Posted 0 0 ∷ Committed 0 [] ∷ Committed 0 [] ∷ RanLowest 0 0 17 ∷ []

-- ---- the count is of what the run finds: a station counts with its lowest time, and the lowest of all stations decides; a refused run has none

found : List Call
found = RunLowest ∷ Post 1 700 3 1 ∷ Post 0 300 3 1 ∷ Post 1 1500 3 1 ∷ RunLowest ∷ RunLowest ∷ RunLowest ∷ RunLowest ∷ []

found_gets : List Answer
found_gets =
    Refused 14 ∷ Posted 0 0 ∷ Posted 1 0 ∷ Posted 2 0 ∷ RanLowest 0 0 3 ∷ RanLowest 1 0 4 ∷ RanLowest 1 0 7 ∷ Refused 14 ∷ []

-- ---- what the rules give

lists : Gives plan narrow calls bench_gets × Gives plan narrow late late_gets × Gives plan narrow later later_gets
    × Gives plan narrow covered covered_gets × Gives plan narrow found found_gets × Gives plan small calls small_gets
unfolding plan station calls bench_gets small_gets late late_gets later later_gets covered covered_gets found found_gets
    all_in parent_out number_out nth pairs zeros
    settle post_step run_step station_step lowest_of counting counting_step lowest_words commit_step answer_to answers_to
    runs beyond or_this latest remove_each undo_found undo_within undo_from removing adding add_all run_least
    post_of with entry entries bytes_of checks or_next judged opened frame_of matter_of
    none_in words_from words_read time_of registered as_time registered_from
    same delete place least_unrun mark is_run undone none_unrun unrun_before logged kept
    decide lex before update initial send silent period run_read drawn_state lose hear repeat pass run_frame run_level run_matter run_at run_event next_draw
lists = (
  computed plan narrow calls bench_gets (in_range plan tt tt tt) refl,
  computed plan narrow late late_gets (in_range plan tt tt tt) refl,
  computed plan narrow later later_gets (in_range plan tt tt tt) refl,
  computed plan narrow covered covered_gets (in_range plan tt tt tt) refl,
  computed plan narrow found found_gets (in_range plan tt tt tt) refl,
  computed plan small calls small_gets (in_range plan tt tt tt) refl,
)
