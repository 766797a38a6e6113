-- Each root that is 0 passes a block by; the first that is not leads to the first leaf.
use native.Mathlib.Omega.{arith}
use Rattle.calendar_search.proofs.Firsts.{clear_start, clear_end, clear_on, stop_at}
use Rattle.calendar_search.proofs.first_leaf.Goals as goal

pub loop-i-init : goal.loop-i-init
loop-i-init c = λ T. clear_start _ _ T _

pub returns-then-x-ne0 : goal.returns-then-x-ne0
returns-then-x-ne0 c =
    let leaf = c.leaf_under in
    let loop = c.loop-i in
    let lt = c.loop-i-test in
    let word = c.word-x in record {
      within = (leaf.ensures.within, omega arith);
      first = λ T. stop_at _ _ T _ _ _ _ (omega arith) (omega arith) (loop.invariant T) word.ensures c.if-x-ne0.true leaf.ensures.under;
    }

pub loop-i-preserved : goal.loop-i-preserved
loop-i-preserved c =
    let loop = c.loop-i in
    let word = c.word-x in
    λ T. clear_on _ _ T _ _ _ (omega arith) (omega arith) (loop.invariant T) word.ensures c.if-x-ne0.false

pub returns : goal.returns
returns c =
    let loop = c.loop-i in
    record { within = (tt, omega arith); first = λ T. clear_end _ _ T _ _ (omega arith) (loop.invariant T) }
