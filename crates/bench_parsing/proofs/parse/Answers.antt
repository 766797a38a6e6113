-- The word says which form a line can have, and without one of the four words it has none.
use Rattle.bench_parsing.proofs.Accepting.{parses, refuses_words}
use Rattle.bench_parsing.proofs.parse.Goals as goal

pub parse_post-requires : goal.parse_post-requires
parse_post-requires c = c.begins.ensures.begun c.if-begins.true

pub parse_retract-requires : goal.parse_retract-requires
parse_retract-requires c = c.begins-2.ensures.begun c.if-begins-2.true

pub parse_run-requires : goal.parse_run-requires
parse_run-requires c = c.begins-3.ensures.begun c.if-begins-3.true

pub parse_commit-requires : goal.parse_commit-requires
parse_commit-requires c = c.begins-4.ensures.begun c.if-begins-4.true

pub returns-then-begins : goal.returns-then-begins
returns-then-begins c = parses _ _ c.parse_post.ensures

pub returns-then-begins-2 : goal.returns-then-begins-2
returns-then-begins-2 c = parses _ _ c.parse_retract.ensures

pub returns-then-begins-3 : goal.returns-then-begins-3
returns-then-begins-3 c = parses _ _ c.parse_run.ensures

pub returns-then-begins-4 : goal.returns-then-begins-4
returns-then-begins-4 c = parses _ _ c.parse_commit.ensures

pub returns : goal.returns
returns c =
    parses _ _
    (refuses_words _ (c.begins.ensures.other c.if-begins.false) (c.begins-2.ensures.other c.if-begins-2.false)
    (c.begins-3.ensures.other c.if-begins-3.false)
    (c.begins-4.ensures.other c.if-begins-4.false))
