-- One byte a turn; the line buffer keeps its length.
use Rattle.std.proofs.Common.{◌≡◌, List, ◌++◌, ℕ, ◌≤◌, length, take}
use Rattle.bench_console.specs.Steps.{Console}
use Rattle.bench_console.proofs.take_all.Given as goal

abbrev pub invariant-loop-byte : goal.invariant-loop-byte
invariant-loop-byte g l =
    (l.at ≤ length l.line) × (length l.line ≡ length l.initial.line)
    × ((xs before : List ℕ) → Console xs before l.initial.line l.len l.initial.b → Console xs (before ++ take l.byte-index l.input) l.line l.at l.b)
