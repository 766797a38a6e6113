-- One read a turn; the line buffer keeps its length.
use Rattle.std.proofs.Common.{◌≡◌, [], ◌≤◌, length}
use Rattle.bench_console.specs.Steps.{More}
use Rattle.bench_console.proofs.read_all.Given as goal

abbrev pub invariant-loop : goal.invariant-loop
invariant-loop g l = (length l.line ≡ 128) × (l.len ≤ length l.line) × More l.initial.b [] l.line l.len l.b
