-- What the bench asks of the engine, and what it prints of each answer (document 01, "Bench program").
use Rattle.std.specs.Prelude.{List, [], ◌++◌, ℕ, zero, suc, ◌*◌, min, Result, Ok, Err}
use Rattle.refusal.specs.declared.Refusal.{Refusal}
use Rattle.refusal.specs.Numbers.{number_of}
use Rattle.rules.specs.Engine.{Call, Post, Retract, RunStation, RunLowest, Commit, Answer, Refused, Posted, Retracted, Ran, RanLowest, Committed, Recorded}
use Rattle.entry.specs.Entry.{event_at}
use Rattle.bench_command.specs.declared.Command.{Command}
use Rattle.bench_command.specs.declared.Command.TheVariants as Line
use Rattle.bench_command.specs.declared.Output.TheVariants as Out
use Rattle.bench_command.specs.Lines.{output_of, no_line, entry_line}

-- the call of a command, with the output that a commit is lent
abbrev pub call_of : Command → List ℕ → Call
call_of (Line.Post station time kind value) output = Post station time kind value
call_of (Line.Retract number) output = Retract number
call_of Line.Run output = RunLowest
call_of (Line.RunStation station) output = RunStation station
call_of (Line.Commit time) output = Commit time output

-- "a line for each event": the first k entries of a commit's output
unfoldable pub entry_lines : ℕ → List ℕ → List ℕ
entry_lines zero output = []
entry_lines (suc k) output = entry_lines k output ++ entry_line (event_at (24 * k) output)

-- "post: number, undone; run: station, undone; retract: undone; commit: first a line for each event .., then its count"; "A refusal prints "no
-- NUMBER"". The output of 1536 bytes has 64 entries; a commit of more is refused, and no command asks for a record. Of a run lowest "The bench program
-- doesn't print" the count of bitmap words read (document 02, change 5)
unfoldable pub lines_of : Answer → List ℕ
lines_of (Refused n) = no_line n
lines_of (Posted number undone) = output_of (Out.Post number undone)
lines_of (Retracted undone) = output_of (Out.Retract undone)
lines_of (Ran station undone) = output_of (Out.Run station undone)
lines_of (RanLowest station undone words) = output_of (Out.Run station undone)
lines_of (Committed count output) = entry_lines (min count 64) output ++ output_of (Out.Commit count)
lines_of (Recorded state) = []

-- "a refused plan or opening prints that and nothing more"
unfoldable pub open_lines : Result Unit Refusal → List ℕ
open_lines (Ok done) = []
open_lines (Err e) = no_line (number_of e)
