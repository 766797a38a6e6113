-- Ties (document 02, change 3): two stations have an unrun event of the least time, and run lowest is judged for the lower one. The plan is that of the
-- bench program's worked list.
use mathlib.Core.Path.{refl}
use mathlib.Core.List.{List, [], ◌∷◌}
use Rattle.refusal.specs.Tests.{or_next, judged}
use Rattle.line.specs.Event.{decide, lex, before}
use Rattle.line.specs.Matter.{matter_of}
use Rattle.line.specs.Station.{parent_out, number_out, update, initial, send, silent, period, run_read, run_level, run_matter, run_at, run_event}
use Rattle.calendar_ring.specs.WordsRead.{none_in, words_from, words_read}
use Rattle.rules.specs.Held.{same, place, least_unrun, mark, time_of, registered, as_time, registered_from, is_run, undone, none_unrun}
use Rattle.rules.specs.Engine.{chosen, opened, Call, Post, RunLowest, Answer, Refused, Posted, RanLowest}
use Rattle.rules.specs.Checks.{checks}
use Rattle.rules.specs.Calls.{post_of, with, lowest_words}
use Rattle.rules.specs.Executable.{runs, beyond, or_this, latest, undo_found, undo_within, undo_from, adding, add_all, run_least}
use Rattle.rules.proofs.Calls.Compute.{settle, post_step, run_step, station_step, lowest_of, counting, counting_step, answer_to, answers_to}
use Rattle.rules_worked.proofs.Check.{nth, all_in, in_range, pairs, Gives, computed}
use Rattle.rules_worked.proofs.Bench.{station, plan}

-- ---- levels at 5, the higher station's posted first

levels : List Call
levels = Post 1 5 3 1 ∷ Post 0 5 3 1 ∷ RunLowest ∷ RunLowest ∷ RunLowest ∷ []

levels_get : List Answer
levels_get = Posted 0 0 ∷ Posted 1 0 ∷ RanLowest 0 0 2 ∷ RanLowest 1 0 2 ∷ Refused 14 ∷ []

-- ---- a reading and a level in the only two places: the level, at station 0, needs no place, and the reading is refused when it is alone

full : List Call
full = Post 1 0 1 0 ∷ Post 0 0 3 7 ∷ RunLowest ∷ RunLowest ∷ []

full_gets : List Answer
full_gets = Posted 0 0 ∷ Posted 1 0 ∷ RanLowest 0 0 2 ∷ Refused 17 ∷ []

-- ---- what the rules give

lists : Gives plan (chosen 16 64 8) levels levels_get × Gives plan (chosen 16 64 2) full full_gets
unfolding plan station levels levels_get full full_gets all_in parent_out number_out nth pairs
    settle post_step run_step station_step lowest_of counting counting_step lowest_words answer_to answers_to
    runs beyond or_this latest undo_found undo_within undo_from adding add_all run_least
    post_of with checks or_next judged opened matter_of
    none_in words_from words_read time_of registered as_time registered_from
    same place least_unrun mark is_run undone none_unrun
    decide lex before update initial send silent period run_read run_level run_matter run_at run_event
lists = (
  computed plan (chosen 16 64 8) levels levels_get (in_range plan tt tt tt) refl,
  computed plan (chosen 16 64 2) full full_gets (in_range plan tt tt tt) refl,
)
