-- The worked list of the bench program (document 01, "Bench program"): its plan, its calls, and the answers that the document prints.
use mathlib.Core.Path.{◌≡◌, refl}
use mathlib.Core.List.{List, [], ◌∷◌, ◌++◌}
use Rattle.words.specs.Le.{bytes_of}
use Rattle.refusal.specs.Tests.{or_next, judged}
use Rattle.generator.specs.Draw.{next_draw}
use Rattle.line.specs.declared.Config.{Config}
use Rattle.line.specs.declared.Matter.TheVariants.{Read, Frame, Level}
use Rattle.line.specs.Event.{posted, decide, lex, before}
use Rattle.line.specs.Matter.{frame_of, matter_of}
use Rattle.line.specs.Station.{parent_out, number_out, update, initial, send, silent, period, run_read, drawn_state, lose, hear, repeat, pass, run_frame, run_level, run_matter, run_at, run_event}
use Rattle.calendar_ring.specs.WordsRead.{none_in, words_from, words_read}
use Rattle.rules.specs.Held.{same, delete, place, least_unrun, mark, time_of, registered, as_time, registered_from, is_run, undone, held_post, none_unrun, unrun_before, logged, kept, record_of}
use Rattle.rules.specs.Engine.{chosen, opened, Call, Post, RunLowest, Commit, Answer, Posted, RanLowest, Committed}
use Rattle.rules.specs.Checks.{checks}
use Rattle.entry.specs.Entry.{entry, entries}
use Rattle.rules.specs.Calls.{post_of, with, lowest_words}
use Rattle.rules.specs.Executable.{runs, beyond, or_this, latest, remove_each, undo_found, undo_within, undo_from, removing, adding, add_all, run_least}
use Rattle.rules.proofs.Calls.Compute.{settle, post_step, retract_step, run_step, station_step, lowest_of, counting, counting_step, commit_step, answer_to, answers_to}
use Rattle.rules_worked.proofs.Check.{nth, all_in, in_range, at, zeros, pairs, Gives, computed}

-- "two unnamed stations; periods 1000 and 200, threshold 5000, delay 30, noise 0, seed 1, parents 0"
unfoldable pub station : Config
station = record { parent = 0; calm = 1000; spring = 200; threshold = 5000; hop = 30; noise = 0; seed = 1 }

unfoldable pub plan : List Config
plan = station ∷ station ∷ []

-- "post 1 0 1 0 / run / run / run / post 1 500 3 5000 / run / run / commit 1001"
unfoldable pub calls : List Call
calls = Post 1 0 1 0 ∷ RunLowest ∷ RunLowest ∷ RunLowest ∷ Post 1 500 3 5000 ∷ RunLowest ∷ RunLowest ∷ Commit 1001 (zeros 1536) ∷ []

-- at leaf width 64 all lie in the first block: a root and a node are read (document 02, change 5)
unfoldable pub answers : List Answer
answers =
    Posted 0 0 ∷ RanLowest 1 0 2 ∷ RanLowest 0 0 2 ∷ RanLowest 1 0 2 ∷ Posted 1 1 ∷ RanLowest 1 0 2 ∷ RanLowest 1 0 2
    ∷ Committed 4 (entries (at 0 1 posted 0 Read ∷ at 30 0 1 1 (Frame 1 0) ∷ at 500 1 posted 1 (Level 5000) ∷ at 1000 1 1 0 Read ∷ []) ++ zeros 1440) ∷ []

pub bench : Gives plan (chosen 16 64 64) calls answers
unfolding plan station calls answers all_in parent_out number_out nth pairs zeros
    settle post_step retract_step run_step station_step lowest_of counting counting_step lowest_words commit_step answer_to answers_to
    runs beyond or_this latest remove_each undo_found undo_within undo_from removing adding add_all run_least
    post_of with entry entries bytes_of checks or_next judged opened frame_of matter_of
    none_in words_from words_read time_of registered as_time registered_from
    same delete place least_unrun mark is_run undone held_post none_unrun unrun_before logged kept record_of
    decide lex before update initial send silent period run_read drawn_state lose hear repeat pass run_frame run_level run_matter run_at run_event next_draw
bench = computed plan (chosen 16 64 64) calls answers (in_range plan tt tt tt) refl

-- the 24 bytes of the third event
pub third : entry (at 500 1 posted 1 (Level 5000))
    ≡ 0xf4 ∷ 0x01 ∷ 0 ∷ 0 ∷ 0 ∷ 0 ∷ 0 ∷ 0 ∷ 1 ∷ 0 ∷ 0 ∷ 0 ∷ 0x88 ∷ 0x13 ∷ 0 ∷ 0 ∷ 1 ∷ 0 ∷ 0xff ∷ 0xff ∷ 3 ∷ 0 ∷ 0 ∷ 0 ∷ []
unfolding entry bytes_of
third = refl
