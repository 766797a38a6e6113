-- The status first (`unheld`), then the event: its source (`unposted`) and its number (`numbered`).
use lib.Dec.{lit<}
use Rattle.engine_posting.proofs.PostTest.{unheld, unposted, numbered}
use Rattle.engine_posting.proofs.is_post.Goals as goal

pub returns-then-number-eq-FREE : goal.returns-then-number-eq-FREE
returns-then-number-eq-FREE c = unheld _ _ _ _ (c.number.ensures.0 (lit< tt)) c.if-number-eq-FREE.true

pub returns-then-e : goal.returns-then-e
returns-then-e c =
    numbered _ _ _ _ (c.number.ensures.0 (lit< tt)) c.if-number-eq-FREE.false c.event-e.ensures c.if-e.true

pub returns : goal.returns
returns c =
    unposted _ _ _ _ (c.number.ensures.0 (lit< tt)) c.if-number-eq-FREE.false c.event-e.ensures c.if-e.false
