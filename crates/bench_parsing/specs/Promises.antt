-- What reading a line promises.
use Rattle.std.specs.Prelude.{◌≡◌, List, ℕ, Result}
use Rattle.refusal.specs.declared.Refusal.{Refusal}
use Rattle.bench_command.specs.declared.Command.{Command}
use Rattle.bench_command.specs.Lines.{command_line, FitsAll, Asks, Refuses, parsed_said}

-- every line of a form is accepted with its numbers, and every other is refused: "8. A command line has none of the forms below."
pub record Parses (xs : List ℕ) (r : Result Command Refusal) : Type 0 where
  pub accepts : (c : Command) → FitsAll c → xs ≡ command_line c → parsed_said r ≡ Asks c
  pub accepted : (c : Command) → parsed_said r ≡ Asks c → (xs ≡ command_line c) × FitsAll c
  pub refused : (n : ℕ) → parsed_said r ≡ Refuses n → n ≡ 8
