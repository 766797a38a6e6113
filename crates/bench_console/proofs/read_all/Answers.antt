-- One read a turn; the line buffer keeps its length.
use mathlib.Core.Path.{refl, ◌∙◌}
use native.Mathlib.Omega.{arith}
use Rattle.bench_console.proofs.Feeding.{nothing_read, read_more, read_to_end, read_so_far, stopped, within_some}
use Rattle.bench_console.proofs.read_all.Goals as goal

pub loop-init : goal.loop-init
loop-init g c = (refl, omega arith, nothing_read _ _)

pub returns-in_err-n : goal.returns-in_err-n
returns-in_err-n g c = stopped c.loop.invariant.2 c.in_err-n.ensures.fed

pub returns-in_default : goal.returns-in_default
returns-in_default g c =
    read_to_end c.read_some.new.line c.read_some.new.b c.in_ok-n.field-0 c.loop.invariant.2 c.in_ok-n.ensures.fed c.in_default.is

pub loop-preserved : goal.loop-preserved
loop-preserved g c = (
  c.read_some.auto.line ∙ c.loop.invariant.0,
  within_some c.in_ok-n.field-0 c.read_some.new.line _ c.in-Some.is c.in_ok-n.ensures.within,
  read_more c.read_some.new.line c.read_some.new.b c.in_ok-n.field-0 c.loop.invariant.2 c.in_ok-n.ensures.fed _ c.in-Some.is,
)

pub returns : goal.returns
returns g c = read_so_far c.loop.invariant.2
