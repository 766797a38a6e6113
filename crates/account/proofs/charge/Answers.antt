-- Each way through the code settles a number.
use mathlib.Core.Path.{sym, ◌∙◌}
use native.Mathlib.Omega.{arith}
use borrow.Author.Tests.{le-leb, lt-leb}
use lib.ListN.{length}
use Rattle.account.specs.Promises.{charge_of}
use Rattle.account.proofs.Answers.{room, reads_charge}
use Rattle.account.proofs.charge.Goals as goal

pub returns-then-space_out : goal.returns-then-space_out
unfolding charge_of
returns-then-space_out c = reads_charge _ _ _ _ (rw (← c.space_out.ensures, c.if-space_out.true))

pub returns-then-n-station : goal.returns-then-n-station
unfolding charge_of
returns-then-n-station c =
    let args = c.args in
    reads_charge _ _ _ _ (rw (← c.space_out.ensures, c.if-space_out.false, le-leb args.n args.station (omega (arith, c.if-n-station.true))))

pub overflow_mul-station : goal.overflow_mul-station
overflow_mul-station c =
    let args = c.args in
    omega (arith, (room args.n (length args.b.now) (sym c.space_out.ensures ∙ c.if-space_out.false)).few)

pub overflow_add-station : goal.overflow_add-station
overflow_add-station c =
    let args = c.args in
    omega (arith, (room args.n (length args.b.now) (sym c.space_out.ensures ∙ c.if-space_out.false)).few)

pub returns : goal.returns
unfolding charge_of
returns c =
    let args = c.args in
    reads_charge _ _ _ _ (rw (← c.space_out.ensures, c.if-space_out.false, lt-leb args.n args.station (omega (arith, c.if-n-station.false)), c.load.ensures))
