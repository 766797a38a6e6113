-- A calendar's times show the held events: it has "each station that has an unrun event, at the time of its least one, and no other" (document 01, "Engine calls").
use Rattle.std.specs.Prelude.{◌≡◌, List, ℕ, ◌<◌, length, get_or}
use Rattle.std.proofs.Math.Option.{Option, none}
use Rattle.rules.specs.Held.{Held, event, In, as_time, registered}

-- every held event is at one of the n stations
abbrev pub Inside : ℕ → List Held → Type 0
Inside n h = (y : Held) → In y h → (event y).target < n

pub record Shows (n : ℕ) (ts : List (Option ℕ)) (h : List Held) : Type 0 where
  pub length_is : length ts ≡ n
  pub each : (s : ℕ) → s < n → get_or ts s none ≡ as_time (registered h s)
  pub inside : Inside n h
