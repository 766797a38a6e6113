-- Reading and printing are inverses.
use mathlib.Core.Path.{◌≡◌, refl, sym, ap, ◌∙◌}
use mathlib.Core.List.{List}
use Prim.Native.Nat.{ℕ}
use lib.ListN.{get_or}
use Rattle.std.specs.Prelude.{Result, Ok}
use Rattle.refusal.specs.declared.Refusal.{Refusal}
use Rattle.bench_command.specs.declared.Command.{Command}
use Rattle.bench_command.specs.Lines.{command_line, FitsAll, Asks, parsed_said}
use Rattle.bench_parsing.specs.Promises.{Parses}
use Rattle.bench_parsing.proofs.Forms.{fourth, same}

-- a command's line is read as that command
pub reads_back : (c : Command) (r : Result Command Refusal) → FitsAll c → Parses (command_line c) r → parsed_said r ≡ Asks c
reads_back c r f p = p.accepts c f refl

-- a line that is read as a command is that command's line
pub prints_back : (xs : List ℕ) (c : Command) → Parses xs (Ok c) → xs ≡ command_line c
prints_back xs c p = (p.accepted c refl).0

-- so two commands with one line are equal
pub one_line : (a b : Command) → FitsAll a → FitsAll b → command_line a ≡ command_line b → a ≡ b
one_line a b f g e = same a b f g e (sym (fourth a) ∙ ap (λ (l : List ℕ). get_or l 3 0) e ∙ fourth b)
