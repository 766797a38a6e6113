-- What the private steps of reading ensure.
use Rattle.std.specs.Prelude.{◌≡◌, List, ℕ, Result, Ok, Err}
use Rattle.refusal.specs.declared.Refusal.{Refusal}
use Rattle.refusal.specs.declared.Refusal.TheVariants as R
use Rattle.bench_command.specs.declared.Command.{Command}
use Rattle.bench_command.specs.Lines.{command_line, FitsAll}

-- the command whose line it is, or refusal 8 where it is the line of none
abbrev pub Reads : List ℕ → Result Command Refusal → Type 0
Reads xs (Ok c) = FitsAll c × (xs ≡ command_line c)
Reads xs (Err e) = (e ≡ R.Command) × ((c : Command) → FitsAll c → xs ≡ command_line c → ⊥)
