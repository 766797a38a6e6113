-- Each way through the code settles the tests of the definition, on the kind and then on the value.
use mathlib.Core.Path.{◌≡◌}
use Prim.Native.Nat.{◌≤◌}
use native.Mathlib.Omega.{arith}
use borrow.Author.Tests.{ne_eqb, le-leb, lt-leb}
use Rattle.refusal.specs.Tests.{largest}
use Rattle.line.specs.Matter.{matter_of}
use Rattle.line.proofs.Unsuited.{numbered}
use Rattle.line.proofs.matter_of.Goals as goal

pub returns-then-value-eq0 : goal.returns-then-value-eq0
unfolding matter_of
returns-then-value-eq0 c =
    let a = c.args in
    let n = numbered a.stations a.kind a.value (rw (c.in-1.is, c.if-value-eq0.true)) in
    record { means = n.0; number = n.1 }

pub returns-else-value-eq0 : goal.returns-else-value-eq0
unfolding matter_of
returns-else-value-eq0 c =
    let a = c.args in
    let n = numbered a.stations a.kind a.value (rw (c.in-1.is, ne_eqb _ 0 c.if-value-eq0.false)) in
    record { means = n.0; number = n.1 }

pub returns-in-2 : goal.returns-in-2
unfolding matter_of
returns-in-2 c =
    let a = c.args in
    let n = numbered a.stations a.kind a.value (rw c.in-2.is c.frame_of.ensures) in
    record { means = n.0; number = n.1 }

pub returns-then-value-le4294967295 : goal.returns-then-value-le4294967295
unfolding matter_of
returns-then-value-le4294967295 c =
    let a = c.args in
    let n = numbered a.stations a.kind a.value (rw (c.in-3.is, le-leb a.value largest (omega arith))) in
    record { means = n.0; number = n.1 }

pub returns-else-value-le4294967295 : goal.returns-else-value-le4294967295
unfolding matter_of
returns-else-value-le4294967295 c =
    let a = c.args in
    let n = numbered a.stations a.kind a.value (rw (c.in-3.is, lt-leb a.value largest (omega arith))) in
    record { means = n.0; number = n.1 }

pub returns-in-0 : goal.returns-in-0
unfolding matter_of
returns-in-0 c =
    let a = c.args in
    let k : a.kind ≡ 0 = omega arith in
    let n = numbered a.stations a.kind a.value (rw k) in
    record { means = n.0; number = n.1 }

pub returns-in-0-2 : goal.returns-in-0-2
unfolding matter_of
returns-in-0-2 c =
    let a = c.args in
    let k : 4 ≤ a.kind = omega arith in
    let n = numbered a.stations a.kind a.value (rw (ne_eqb a.kind 1 (omega arith), ne_eqb a.kind 2 (omega arith), ne_eqb a.kind 3 (omega arith))) in
    record { means = n.0; number = n.1 }
