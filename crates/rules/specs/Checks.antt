-- The numbers that refuse a call, in checking order (document 01, "What each number says, in checking order").
use Rattle.std.specs.Prelude.{ℕ, ◌-◌, ◌*◌, Bool, true, false, List, [], ◌∷◌, ltb, length}
use Rattle.refusal.specs.Tests.{station_out, time_late, floor_late, time_early, passes, too_few, Check, says}
use Rattle.line.specs.Answer.{counts_pass}
use Rattle.line.specs.Matter.{matter_of, unsuited}
use Rattle.line.specs.Station.{Plan, run_event}
use Rattle.rules.specs.Held.{Held, Found, none, some, least_unrun, held_post, none_unrun, unrun_before, logged}
use Rattle.rules.specs.Engine.{Engine, Call, Post, Retract, RunStation, RunLowest, Commit, Record}

-- ---- what the numbers say of an engine; the tests that look at numbers alone stand in crate refusal

-- "how many places are free (capacity less held events)"
abbrev pub free : Engine → ℕ
free e = e.setting.capacity - length e.queue.held

abbrev pub missing : Found → Bool
missing none = true
missing (some x) = false

-- 13: "No held post has that number."
abbrev pub no_post : ℕ → List Held → Bool
no_post n h = missing (held_post n h)

-- 14: ".. no event is unrun (at that station)." At no station: none_unrun
abbrev pub none_unrun_at : ℕ → List Held → Bool
none_unrun_at s h = missing (least_unrun s h)

-- 16: ".. a station's heard, lost or sent would pass 4294967295", where the event found is run
abbrev pub run_passes : Plan → Engine → Found → Bool
run_passes p e none = false
run_passes p e (some x) = counts_pass (run_event p (e.queue.states x.target) x).after

-- 17: "Before the call, fewer places are free than it adds events", where the event found is run
abbrev pub run_too_few : Plan → Engine → Found → Bool
run_too_few p e none = false
run_too_few p e (some x) = too_few (free e) (length (run_event p (e.queue.states x.target) x).sends)

-- 18: "The output has fewer than 24 bytes per event"
abbrev pub output_short : ℕ → ℕ → Bool
output_short count bytes = ltb bytes (24 * count)

-- ---- the numbers of each call, in checking order

unfoldable pub checks : Plan → Engine → Call → List Check
checks p e (Post s t kind value) =
    says 9 (station_out p.count s) ∷ says 10 (unsuited (matter_of p.count kind value)) ∷ says 11 (time_late t) ∷ says 12 (time_early e.now t)
    ∷ says 16 (passes e.next) ∷ says 17 (too_few (free e) 1) ∷ []
checks p e (Retract n) = says 13 (no_post n e.queue.held) ∷ []
checks p e (RunStation s) =
    says 9 (station_out p.count s) ∷ says 14 (none_unrun_at s e.queue.held) ∷ says 16 (run_passes p e (least_unrun s e.queue.held))
    ∷ says 17 (run_too_few p e (least_unrun s e.queue.held)) ∷ []
-- 14 alone: where an event is unrun, 16 and 17 are those of the station that the calendar names (Calls, `lowest`)
checks p e RunLowest = says 14 (none_unrun e.queue.held) ∷ []
checks p e (Commit c output) =
    says 11 (floor_late c) ∷ says 12 (time_early e.now c) ∷ says 15 (unrun_before c e.queue.held)
    ∷ says 18 (output_short (length (logged c e.queue.held)) (length output)) ∷ []
checks p e (Record s) = says 9 (station_out p.count s) ∷ []
