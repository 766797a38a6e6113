-- The record's counts, where it is one.
use native.Mathlib.Omega.{arith}
use lib.ListN.{length-set}
use borrow.Author.Rules.{rules}
use Rattle.quoting.proofs.Hours.{noted, unnoted}
use Rattle.quoting.proofs.note.Goals as goal

pub returns-in_default : goal.returns-in_default
returns-in_default c =
    let given = c.args in
    let the-record = c.«record» in
    unnoted given.hour given.table.now the-record.result the-record.ensures (omega arith) c.in_default.is

pub bounds-table-i-2 : goal.bounds-table-i-2
bounds-table-i-2 c = simp length-set (omega arith)

pub returns : goal.returns
returns c =
    let given = c.args in
    let the-record = c.«record» in
    noted given.hour given.table.now the-record.result the-record.ensures (omega arith) c.in-Ok.is
