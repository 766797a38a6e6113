-- Each arm of the match settles the tests of the definition.
use mathlib.Core.Path.{◌≡◌}
use Prim.Native.Nat.{◌≤◌}
use native.Mathlib.Omega.{arith}
use borrow.Author.Tests.{ne_eqb}
use Rattle.account_parts.specs.Cost.{cost_of}
use Rattle.account_parts.proofs.cost.Goals as goal

pub returns-in-1 : goal.returns-in-1
unfolding cost_of
returns-in-1 c = rw c.in-1.is

pub returns-in-2 : goal.returns-in-2
unfolding cost_of
returns-in-2 c = rw c.in-2.is

pub returns-in-0 : goal.returns-in-0
unfolding cost_of
returns-in-0 c = let k : c.args.kind ≡ 0 = omega arith in rw k

pub returns-in-0-2 : goal.returns-in-0-2
unfolding cost_of
returns-in-0-2 c =
    let k : 3 ≤ c.args.kind = omega arith in
    rw (ne_eqb c.args.kind 1 (omega arith), ne_eqb c.args.kind 2 (omega arith))
