-- A literal row has the arity of each row that is one with it modulo 4.
use native.Mathlib.Omega.{arith}
use Rattle.calendar_search.proofs.Firsts.{by_rows}
use Rattle.calendar_search.proofs.leaf_under.Goals as goal

pub returns-in-0 : goal.returns-in-0
returns-in-0 c =
    let leaf = c.leaf_in in
    record {
      within = leaf.ensures.within;
      under = by_rows 0 _ (omega arith) leaf.ensures.under;
    }

pub returns-in-1 : goal.returns-in-1
returns-in-1 c =
    let leaf = c.leaf_in-in-1 in
    record {
      within = leaf.ensures.within;
      under = by_rows 1 _ (omega arith) leaf.ensures.under;
    }

pub returns-in-2 : goal.returns-in-2
returns-in-2 c =
    let leaf = c.leaf_in-in-2 in
    record {
      within = leaf.ensures.within;
      under = by_rows 2 _ (omega arith) leaf.ensures.under;
    }

pub returns-in_default : goal.returns-in_default
returns-in_default c =
    let leaf = c.leaf_in-in_default in
    record {
      within = leaf.ensures.within;
      under = by_rows 3 _ (omega arith) leaf.ensures.under;
    }
