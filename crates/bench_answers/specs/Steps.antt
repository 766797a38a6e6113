-- What the private steps of a reply ensure.
use Rattle.std.specs.Prelude.{◌≡◌, List, ◌++◌, ℕ, min, Result, Ok, Err}
use Rattle.refusal.specs.declared.Refusal.{Refusal}
use Rattle.rules.specs.Engine.{Answer}
use Rattle.engine_promises.specs.Promises.{Answered}
use Rattle.bench_command.specs.declared.Command.{Command}
use Rattle.bench_command.specs.declared.Output.{Output}
use Rattle.bench_command.specs.declared.Output.TheVariants as Out
use Rattle.bench_command.specs.Lines.{answer_line}
use Rattle.bench_answers.specs.Shown.{call_of, entry_lines, lines_of}

-- how many entries are printed before an answer's line: those of a commit, of which the output has 64 at most
abbrev pub entries_in : Result Output Refusal → ℕ
entries_in (Ok (Out.Post number undone)) = 0
entries_in (Ok (Out.Retract undone)) = 0
entries_in (Ok (Out.Run station undone)) = 0
entries_in (Ok (Out.Commit count)) = min count 64
entries_in (Err e) = 0

-- a command is asked of the engine, with the output that a commit is lent; the bytes `left` stand in it then
pub record AsksEngine (c : Command) (output xs : List ℕ) (r : Result Output Refusal) (ys left : List ℕ) : Type 0 where
  pub said : Answer
  pub answered : Answered (call_of c output) said xs ys
  pub lines : lines_of said ≡ entry_lines (entries_in r) left ++ answer_line r
