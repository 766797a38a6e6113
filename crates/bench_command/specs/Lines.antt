-- The command lines, and the lines of the answers (document 01, "Bench program").
use Rattle.std.specs.Prelude.{List, [], ◌∷◌, ◌++◌, ℕ, Result, Ok, Err}
use Rattle.refusal.specs.declared.Refusal.{Refusal}
use Rattle.refusal.specs.Numbers.{number_of}
use Rattle.line.specs.declared.Event.{Event}
use Rattle.line.specs.Matter.{kind_of, value_of}
use Rattle.text.specs.Decimal.{decimal, Fits}
use Rattle.text.specs.Spaced.{spaced}
use Rattle.bench_command.specs.declared.Command.{Command}
use Rattle.bench_command.specs.declared.Command.TheVariants.{Post, Retract, Run, RunStation, Commit}
use Rattle.bench_command.specs.declared.Output.{Output}
use Rattle.bench_command.specs.declared.Output.TheVariants as Out

-- the words, in ASCII
abbrev pub post_word : List ℕ
post_word = 112 ∷ 111 ∷ 115 ∷ 116 ∷ []

abbrev pub retract_word : List ℕ
retract_word = 114 ∷ 101 ∷ 116 ∷ 114 ∷ 97 ∷ 99 ∷ 116 ∷ []

abbrev pub run_word : List ℕ
run_word = 114 ∷ 117 ∷ 110 ∷ []

abbrev pub commit_word : List ℕ
commit_word = 99 ∷ 111 ∷ 109 ∷ 109 ∷ 105 ∷ 116 ∷ []

abbrev pub no_word : List ℕ
no_word = 110 ∷ 111 ∷ []

-- "post STATION TIME KIND VALUE", "retract NUMBER", "run", "run STATION", "commit TIME"
unfoldable pub command_line : Command → List ℕ
command_line (Post station time kind value) = spaced post_word (station ∷ time ∷ kind ∷ value ∷ [])
command_line (Retract number) = spaced retract_word (number ∷ [])
command_line Run = run_word
command_line (RunStation station) = spaced run_word (station ∷ [])
command_line (Commit time) = spaced commit_word (time ∷ [])

-- "as is one over 64 bits"
abbrev pub FitsAll : Command → Type 0
FitsAll (Post station time kind value) = Fits station × Fits time × Fits kind × Fits value
FitsAll (Retract number) = Fits number
FitsAll Run = Unit
FitsAll (RunStation station) = Fits station
FitsAll (Commit time) = Fits time

-- what a line says: a command with its numbers, or a refusal's number
pub data LineSaid : Type 0 where
  Asks : Command → LineSaid
  Refuses : ℕ → LineSaid

abbrev pub parsed_said : Result Command Refusal → LineSaid
parsed_said (Ok c) = Asks c
parsed_said (Err e) = Refuses (number_of e)

-- "post: number, undone; run: station, undone; retract: undone; commit: .. its count"; each a line
unfoldable pub output_of : Output → List ℕ
output_of (Out.Post number undone) = spaced post_word (number ∷ undone ∷ []) ++ 10 ∷ []
output_of (Out.Retract undone) = spaced retract_word (undone ∷ []) ++ 10 ∷ []
output_of (Out.Run station undone) = spaced run_word (station ∷ undone ∷ []) ++ 10 ∷ []
output_of (Out.Commit count) = spaced commit_word (count ∷ []) ++ 10 ∷ []

-- "A refusal prints "no NUMBER""
unfoldable pub no_line : ℕ → List ℕ
no_line number = spaced no_word (number ∷ []) ++ 10 ∷ []

-- the line of an answer, or of its refusal
abbrev pub answer_line : Result Output Refusal → List ℕ
answer_line (Ok o) = output_of o
answer_line (Err e) = no_line (number_of e)

-- "a line for each event with time, target, kind, source, number, value"
unfoldable pub entry_line : Event → List ℕ
entry_line x =
    spaced (decimal x.time) (x.target ∷ kind_of x.matter ∷ x.source ∷ x.number ∷ value_of x.matter ∷ []) ++ 10 ∷ []
