-- Lists of calls with the answers that an independent program gave (tools/worked.py, which writes this file).
use mathlib.Core.Path.{refl}
use mathlib.Core.Bool.{true, false}
use mathlib.Core.List.{List, [], ◌∷◌, ◌++◌}
use Rattle.words.specs.Le.{bytes_of}
use Rattle.refusal.specs.Tests.{or_next, judged}
use Rattle.generator.specs.Draw.{next_draw}
use Rattle.line.specs.declared.Config.{Config}
use Rattle.line.specs.declared.Matter.TheVariants.{Read, Frame, Level}
use Rattle.line.specs.Event.{decide, lex, before}
use Rattle.line.specs.Matter.{frame_of, matter_of}
use Rattle.line.specs.Station.{parent_out, number_out, update, initial, send, silent, period, run_read, drawn_state, lose, hear, repeat, pass, run_frame, run_level, run_matter, run_at, run_event}
use Rattle.calendar_ring.specs.WordsRead.{none_in, words_from, words_read}
use Rattle.rules.specs.Held.{same, delete, place, least_unrun, mark, time_of, registered, as_time, registered_from, is_run, undone, held_post, none_unrun, unrun_before, logged, kept, record_of}
use Rattle.rules.specs.Engine.{chosen, opened, Call, Post, Retract, RunStation, RunLowest, Commit, Record, Answer, Refused, Posted, Retracted, Ran, RanLowest, Committed, Recorded}
use Rattle.rules.specs.Checks.{checks}
use Rattle.entry.specs.Entry.{entry, entries}
use Rattle.rules.specs.Calls.{post_of, with, lowest_words}
use Rattle.rules.specs.Executable.{runs, beyond, or_this, latest, remove_each, undo_found, undo_within, undo_from, removing, adding, add_all, run_least}
use Rattle.rules.proofs.Calls.Compute.{settle, post_step, retract_step, run_step, station_step, lowest_of, counting, counting_step, commit_step, answer_to, answers_to}
use Rattle.rules_worked.proofs.Check.{nth, all_in, in_range, at, zeros, pairs, Gives, computed}

plan_1 : List Config
plan_1 =
    record { parent = 0; calm = 5000; spring = 1500; threshold = 5; hop = 250; noise = 1500000000; seed = 1408557842 }
    ∷ record { parent = 0; calm = 2000; spring = 1500; threshold = 5; hop = 250; noise = 0; seed = 601156795 }
    ∷ record { parent = 1; calm = 5000; spring = 750; threshold = 5; hop = 350; noise = 0; seed = 451841624 }
    ∷ record { parent = 0; calm = 5000; spring = 1500; threshold = 5; hop = 350; noise = 1000000000; seed = 1061653348 }
    ∷ []

calls_1 : List Call
calls_1 =
    Post 2 1700 3 5
    ∷ RunStation 1
    ∷ Post 2 1600 2 0
    ∷ Commit 1450 (zeros 24)
    ∷ Post 2 3900 3 9
    ∷ Retract 3
    ∷ RunLowest
    ∷ RunStation 1
    ∷ Post 3 2600 2 513
    ∷ Retract 3
    ∷ Commit 1700 (zeros 240)
    ∷ RunStation 2
    ∷ RunStation 3
    ∷ Post 2 1950 3 9
    ∷ Post 0 5500 2 1
    ∷ RunStation 0
    ∷ Commit 1950 (zeros 24)
    ∷ RunStation 2
    ∷ RunStation 0
    ∷ RunStation 3
    ∷ RunLowest
    ∷ RunLowest
    ∷ RunLowest
    ∷ Commit 6100 (zeros 240)
    ∷ RunStation 3
    ∷ Post 1 10150 3 1
    ∷ RunLowest
    ∷ RunLowest
    ∷ Post 1 8700 1 0
    ∷ Post 3 7950 1 0
    ∷ Post 4 6600 1 0
    ∷ Commit 8000 (zeros 240)
    ∷ RunLowest
    ∷ RunStation 2
    ∷ Commit 8300 (zeros 240)
    ∷ RunStation 2
    ∷ RunStation 0
    ∷ RunStation 1
    ∷ RunLowest
    ∷ Commit 9250 (zeros 240)
    ∷ Post 1 9150 2 1025
    ∷ RunStation 0
    ∷ Post 0 10200 1 0
    ∷ RunStation 3
    ∷ RunLowest
    ∷ Post 3 12550 3 1
    ∷ RunStation 1
    ∷ RunLowest
    ∷ Post 0 9400 1 0
    ∷ Commit 10200 (zeros 24)
    ∷ RunStation 1
    ∷ Record 0
    ∷ Commit 10250 (zeros 240)
    ∷ Retract 4
    ∷ RunStation 2
    ∷ RunLowest
    ∷ RunStation 3
    ∷ Commit 10700 (zeros 240)
    ∷ RunStation 3
    ∷ Post 3 10900 3 1
    ∷ RunLowest
    ∷ RunStation 1
    ∷ RunLowest
    ∷ Commit 10950 (zeros 240)
    ∷ Post 0 10950 3 9
    ∷ RunLowest
    ∷ RunLowest
    ∷ RunStation 0
    ∷ RunStation 3
    ∷ Post 2 10850 2 0
    ∷ []

answers_1 : List Answer
answers_1 =
    Posted 0 0
    ∷ Refused 14
    ∷ Posted 1 0
    ∷ Committed 0 (entries ([]) ++ zeros 24)
    ∷ Posted 2 0
    ∷ Refused 13
    ∷ RanLowest 2 0 3
    ∷ Ran 1 0
    ∷ Posted 3 0
    ∷ Retracted 0
    ∷ Committed 1 (entries (at 1600 2 65535 1 (Frame 0 0) ∷ []) ++ zeros 216)
    ∷ Ran 2 0
    ∷ Refused 14
    ∷ Posted 4 0
    ∷ Posted 5 0
    ∷ Ran 0 0
    ∷ Committed 1 (entries (at 1700 2 65535 0 (Level 5) ∷ []) ++ zeros 0)
    ∷ Ran 2 0
    ∷ Ran 0 0
    ∷ Refused 14
    ∷ RanLowest 2 0 10
    ∷ RanLowest 0 0 17
    ∷ RanLowest 0 0 16
    ∷ Committed 7 (entries (at 1950 1 2 0 (Frame 0 0) ∷ at 1950 2 65535 4 (Level 9) ∷ at 2200 0 1 0 (Frame 0 0) ∷ at 3900 2 65535 2 (Level 9) ∷ at 5500 0 65535 5 (Frame 1 0) ∷ at 5750 0 0 0 (Frame 1 1) ∷ at 6000 0 0 1 (Frame 1 2) ∷ []) ++ zeros 72)
    ∷ Refused 14
    ∷ Posted 6 0
    ∷ RanLowest 0 0 3
    ∷ RanLowest 1 0 16
    ∷ Posted 7 1
    ∷ Posted 8 0
    ∷ Refused 9
    ∷ Refused 15
    ∷ RanLowest 3 0 10
    ∷ Refused 14
    ∷ Committed 2 (entries (at 6250 0 0 2 (Frame 1 3) ∷ at 7950 3 65535 8 Read ∷ []) ++ zeros 192)
    ∷ Refused 14
    ∷ Ran 0 0
    ∷ Ran 1 0
    ∷ RanLowest 0 0 4
    ∷ Refused 15
    ∷ Refused 10
    ∷ Ran 0 0
    ∷ Posted 9 0
    ∷ Refused 17
    ∷ RanLowest 0 0 6
    ∷ Refused 17
    ∷ Ran 1 0
    ∷ RanLowest 0 0 7
    ∷ Refused 17
    ∷ Refused 18
    ∷ Refused 17
    ∷ Recorded (record { draw = 467263970; level = 0; heard = 1; lost = 4; sent = 3; last = 2200; reached = true })
    ∷ Refused 15
    ∷ Refused 13
    ∷ Refused 14
    ∷ RanLowest 0 0 9
    ∷ Refused 17
    ∷ Committed 8 (entries (at 8300 0 3 1 (Frame 3 0) ∷ at 8700 1 65535 7 Read ∷ at 8950 0 1 2 (Frame 1 0) ∷ at 9200 0 0 3 (Frame 1 1) ∷ at 9450 0 0 4 (Frame 1 2) ∷ at 9700 0 0 5 (Frame 1 3) ∷ at 10150 1 65535 6 (Level 1) ∷ at 10200 0 65535 9 Read ∷ []) ++ zeros 48)
    ∷ Ran 3 0
    ∷ Posted 10 1
    ∷ RanLowest 1 0 2
    ∷ Ran 1 0
    ∷ RanLowest 3 0 3
    ∷ Committed 2 (entries (at 10700 1 1 1 Read ∷ at 10900 3 65535 10 (Level 1) ∷ []) ++ zeros 192)
    ∷ Posted 11 0
    ∷ RanLowest 0 0 2
    ∷ RanLowest 0 0 2
    ∷ Ran 0 0
    ∷ Ran 3 0
    ∷ Refused 12
    ∷ []

list_1 : Gives plan_1 (chosen 16 1 10) calls_1 answers_1
unfolding plan_1 calls_1 answers_1 all_in parent_out number_out nth pairs zeros
    settle post_step retract_step run_step station_step lowest_of counting counting_step lowest_words commit_step answer_to answers_to
    runs beyond or_this latest remove_each undo_found undo_within undo_from removing adding add_all run_least
    post_of with entry entries bytes_of checks or_next judged opened frame_of matter_of
    none_in words_from words_read time_of registered as_time registered_from
    same delete place least_unrun mark is_run undone held_post none_unrun unrun_before logged kept record_of
    decide lex before update initial send silent period run_read drawn_state lose hear repeat pass run_frame run_level run_matter run_at run_event next_draw
list_1 = computed plan_1 (chosen 16 1 10) calls_1 answers_1 (in_range plan_1 tt tt tt) refl

plan_2 : List Config
plan_2 =
    record { parent = 0; calm = 3200; spring = 2400; threshold = 5; hop = 560; noise = 0; seed = 721513029 }
    ∷ record { parent = 0; calm = 3200; spring = 1200; threshold = 5; hop = 560; noise = 1500000000; seed = 61726799 }
    ∷ record { parent = 1; calm = 8000; spring = 1200; threshold = 5; hop = 1600; noise = 1000000000; seed = 537282437 }
    ∷ []

calls_2 : List Call
calls_2 =
    Post 2 6080 1 0
    ∷ Record 1
    ∷ RunStation 2
    ∷ Commit 7680 (zeros 240)
    ∷ RunStation 1
    ∷ Post 1 8080 3 1
    ∷ Post 1 11200 2 1025
    ∷ RunLowest
    ∷ RunStation 1
    ∷ RunStation 2
    ∷ Retract 2
    ∷ RunStation 2
    ∷ RunLowest
    ∷ Post 1 9360 2 0
    ∷ RunStation 2
    ∷ RunStation 0
    ∷ Retract 1
    ∷ RunStation 2
    ∷ RunLowest
    ∷ RunStation 2
    ∷ RunLowest
    ∷ Retract 3
    ∷ Post 0 14800 2 0
    ∷ RunStation 0
    ∷ RunLowest
    ∷ RunLowest
    ∷ RunLowest
    ∷ Post 3 8320 2 0
    ∷ Record 1
    ∷ RunLowest
    ∷ Record 0
    ∷ RunStation 0
    ∷ RunLowest
    ∷ RunStation 2
    ∷ Commit 16240 (zeros 240)
    ∷ RunLowest
    ∷ RunStation 0
    ∷ RunLowest
    ∷ RunStation 2
    ∷ RunLowest
    ∷ RunStation 2
    ∷ Post 0 12320 2 1
    ∷ RunLowest
    ∷ RunStation 2
    ∷ Record 1
    ∷ RunLowest
    ∷ RunStation 1
    ∷ RunStation 2
    ∷ RunStation 1
    ∷ RunStation 1
    ∷ RunLowest
    ∷ RunStation 1
    ∷ Retract 4
    ∷ RunLowest
    ∷ Retract 3
    ∷ RunStation 1
    ∷ Post 2 11840 3 9
    ∷ Commit 11840 (zeros 24)
    ∷ RunStation 1
    ∷ RunLowest
    ∷ Retract 0
    ∷ Retract 4
    ∷ Retract 4
    ∷ RunStation 0
    ∷ Commit 13840 (zeros 240)
    ∷ RunStation 1
    ∷ Post 1 17920 1 0
    ∷ RunStation 0
    ∷ RunLowest
    ∷ RunLowest
    ∷ []

answers_2 : List Answer
answers_2 =
    Posted 0 0
    ∷ Recorded (record { draw = 61726799; level = 0; heard = 0; lost = 0; sent = 0; last = 0; reached = false })
    ∷ Ran 2 0
    ∷ Committed 1 (entries (at 6080 2 65535 0 Read ∷ []) ++ zeros 216)
    ∷ Ran 1 0
    ∷ Posted 1 0
    ∷ Refused 10
    ∷ RanLowest 1 0 2
    ∷ Ran 1 0
    ∷ Ran 2 0
    ∷ Refused 13
    ∷ Ran 2 0
    ∷ RanLowest 1 0 4
    ∷ Posted 2 0
    ∷ Ran 2 0
    ∷ Ran 0 0
    ∷ Retracted 4
    ∷ Ran 2 0
    ∷ RanLowest 1 0 3
    ∷ Ran 2 0
    ∷ RanLowest 1 0 4
    ∷ Refused 13
    ∷ Posted 3 0
    ∷ Ran 0 0
    ∷ RanLowest 1 0 5
    ∷ RanLowest 1 0 6
    ∷ RanLowest 1 0 7
    ∷ Refused 9
    ∷ Recorded (record { draw = 61726799; level = 0; heard = 0; lost = 0; sent = 0; last = 0; reached = false })
    ∷ RanLowest 1 0 8
    ∷ Recorded (record { draw = 721513029; level = 0; heard = 0; lost = 0; sent = 0; last = 0; reached = false })
    ∷ Ran 0 0
    ∷ RanLowest 1 0 17
    ∷ Ran 2 0
    ∷ Refused 18
    ∷ RanLowest 0 0 16
    ∷ Refused 14
    ∷ RanLowest 1 0 16
    ∷ Ran 2 0
    ∷ RanLowest 0 0 16
    ∷ Ran 2 0
    ∷ Posted 4 3
    ∷ RanLowest 0 0 11
    ∷ Ran 2 0
    ∷ Recorded (record { draw = 61726799; level = 0; heard = 0; lost = 0; sent = 0; last = 0; reached = false })
    ∷ RanLowest 0 0 15
    ∷ Ran 1 0
    ∷ Ran 2 0
    ∷ Ran 1 0
    ∷ Ran 1 0
    ∷ RanLowest 0 0 16
    ∷ Ran 1 0
    ∷ Retracted 3
    ∷ RanLowest 0 0 15
    ∷ Retracted 1
    ∷ Ran 1 0
    ∷ Posted 5 17
    ∷ Refused 18
    ∷ Refused 14
    ∷ RanLowest 2 0 10
    ∷ Refused 13
    ∷ Refused 13
    ∷ Refused 13
    ∷ Refused 14
    ∷ Committed 9 (entries (at 7680 1 2 1 (Frame 2 0) ∷ at 8240 1 1 0 (Frame 2 1) ∷ at 8800 1 1 1 (Frame 2 2) ∷ at 9360 0 1 2 (Frame 2 0) ∷ at 9360 1 65535 2 (Frame 0 0) ∷ at 9920 1 1 3 (Frame 0 1) ∷ at 10480 1 1 4 (Frame 0 2) ∷ at 11040 1 1 5 (Frame 0 3) ∷ at 11840 2 65535 5 (Level 9) ∷ []) ++ zeros 24)
    ∷ Refused 14
    ∷ Posted 6 0
    ∷ Refused 14
    ∷ RanLowest 2 0 2
    ∷ RanLowest 2 0 4
    ∷ []

list_2 : Gives plan_2 (chosen 8 8 40) calls_2 answers_2
unfolding plan_2 calls_2 answers_2 all_in parent_out number_out nth pairs zeros
    settle post_step retract_step run_step station_step lowest_of counting counting_step lowest_words commit_step answer_to answers_to
    runs beyond or_this latest remove_each undo_found undo_within undo_from removing adding add_all run_least
    post_of with entry entries bytes_of checks or_next judged opened frame_of matter_of
    none_in words_from words_read time_of registered as_time registered_from
    same delete place least_unrun mark is_run undone held_post none_unrun unrun_before logged kept record_of
    decide lex before update initial send silent period run_read drawn_state lose hear repeat pass run_frame run_level run_matter run_at run_event next_draw
list_2 = computed plan_2 (chosen 8 8 40) calls_2 answers_2 (in_range plan_2 tt tt tt) refl
