-- The costs stored, and no charge at any station.
use mathlib.Core.Path.{sym, ◌∙◌}
use native.Mathlib.Omega.{arith}
use lib.ListN.{length}
use Rattle.account.proofs.Answers.{room, open_space, open_done}
use Rattle.account.proofs.open.Goals as goal

pub returns-then-space_out : goal.returns-then-space_out
returns-then-space_out c = open_space _ _ _ _ (sym c.space_out.ensures ∙ c.if-space_out.true)

pub clear_charges-requires : goal.clear_charges-requires
clear_charges-requires c =
    let args = c.args in
    let r = room args.n (length args.b.now) (sym c.space_out.ensures ∙ c.if-space_out.false) in
    (omega (arith, r.long, c.store.auto.b, c.store-2.auto.b), omega (arith, r.few))

pub returns : goal.returns
returns c =
    open_done _ _ _ _ _ _ _ (sym c.space_out.ensures ∙ c.if-space_out.false) (omega arith) (omega arith) c.store.ensures
    c.store-2.ensures c.clear_charges.ensures
