-- The table of hours: two numbers an hour, what the collector has heard and what it has lost when the hour ends, counted from the start.
use Rattle.std.specs.Prelude.{List, ℕ, zero, suc, ◌+◌, ◌*◌, ◌-◌, get_or}

-- heard (0) or lost (1) when an hour begins: nothing before the first
unfoldable pub count_before : List ℕ → ℕ → ℕ → ℕ
count_before hs which zero = 0
count_before hs which (suc h) = get_or hs (2 * h + which) 0

-- from the start of an hour to the start of another
abbrev pub between : List ℕ → ℕ → ℕ → ℕ → ℕ
between hs which from to = count_before hs which to - count_before hs which from
