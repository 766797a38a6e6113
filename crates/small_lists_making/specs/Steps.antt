-- What a step of making a call ensures.
use Rattle.std.specs.Prelude.{ℕ, List}
use Rattle.bench_command.specs.declared.Command.{Command}
use Rattle.bench_answers.specs.Shown.{call_of}
use Rattle.small_lists.specs.Calls.{StandsFor}

-- the command of the call that the number stands for
abbrev pub IsCommand : ℕ → Command → Type 0
IsCommand number c = (output : List ℕ) → StandsFor output number (call_of c output)
