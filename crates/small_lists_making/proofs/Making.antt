-- A call is made by its number, or none.
use mathlib.Core.Path.{refl}
use mathlib.Core.List.{List, []}
use Prim.Native.Nat.{ℕ, ◌≤◌}
use Rattle.bench_command.specs.declared.Command.{Command}
use Rattle.bench_answers.specs.Promises.{InText, Obeyed}
use Rattle.small_lists_making.specs.Promises.{MakesCall, call_made, no_call}
use Rattle.small_lists_making.specs.Steps.{IsCommand}

pub makes : {number : ℕ} {c : Command} {xs ys before : List ℕ} {r : ℕ} {after : List ℕ} → IsCommand number c → InText (Obeyed c xs ys) xs before r ys after
    → InText (MakesCall number xs ys) xs before r ys after
makes I T = record {
  short = T.short;
  printed = T.printed;
  lines = λ room. let o = T.lines room in call_made o.output o.size (I o.output) o.answered o.lines;
  written = T.written;
}

pub makes_none : {number : ℕ} {xs before : List ℕ} → 7 ≤ number → InText (MakesCall number xs xs) xs before 0 xs before
makes_none h = record {
  short = λ l. (refl, refl, refl);
  printed = [];
  lines = λ room. no_call h;
  written = λ room. record { text = refl; ends = refl };
}
