-- Where the rows stand in a buffer of n stations: after the header first the stations, then the slots.
use Rattle.std.specs.Prelude.{ℕ, ◌+◌, ◌*◌}

-- the row of station s
abbrev pub station_row : ℕ → ℕ → ℕ
station_row n s = 64 + 128 * s

-- the row of slot i
abbrev pub slot_row : ℕ → ℕ → ℕ
slot_row n i = 64 + 128 * n + 64 * i

-- ---- the header's words

abbrev pub stations_word : ℕ
stations_word = 0

abbrev pub capacity_word : ℕ
capacity_word = 1

abbrev pub commit_time_word : ℕ
commit_time_word = 2

abbrev pub next_post_word : ℕ
next_post_word = 3

-- where word i stands
abbrev pub word_place : ℕ → ℕ
word_place i = 8 * i

-- ---- a slot's numbers: the nodes of its event's two sends, and its status

abbrev pub first_send : ℕ
first_send = 0

abbrev pub second_send : ℕ
second_send = 1

abbrev pub status_number : ℕ
status_number = 2

-- where number k of slot i stands
abbrev pub number_place : ℕ → ℕ → ℕ → ℕ
number_place n i k = slot_row n i + 56 + 2 * k

-- the statuses
abbrev pub free_status : ℕ
free_status = 0

abbrev pub unrun_status : ℕ
unrun_status = 1

abbrev pub run_status : ℕ
run_status = 2
