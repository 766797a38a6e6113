-- The search: no slot passed so far holds the post; a slot that does ends it (`finds-at`), and so does the last slot (`finds-none`).
use mathlib.Core.Path.{◌≡◌, sym, ◌∙◌}
use mathlib.Core.Bool.{false}
use native.Mathlib.Omega.{arith}
use borrow.Author.Count.{below_more}
use Rattle.engine_index.specs.Layout.{node_of}
use Rattle.engine_posting.specs.Steps.{is_post_at}
use Rattle.engine_posting.proofs.PostSlots.{finds_none, finds_at}
use Rattle.engine_posting.proofs.find_post.Goals as goal

pub returns-then-is_post : goal.returns-then-is_post
returns-then-is_post c =
    let a = c.args in
    let node : c.node_of.result ≡ node_of a.n c.loop-i.i = omega (arith, c.node_of.ensures, c.requires, c.loop-i-test.true) in
    finds_at _ _ _ _ _ node c.loop-i-test.true (sym c.is_post.ensures ∙ c.if-is_post.true)

pub loop-i-preserved : goal.loop-i-preserved
loop-i-preserved c =
    let a = c.args in
    below_more (λ k. is_post_at a.b.now a.n k a.number ≡ false) c.loop-i.i c.loop-i.invariant (sym c.is_post.ensures ∙ c.if-is_post.false)

pub returns : goal.returns
returns c = finds_none _ _ _ _ (λ k h. c.loop-i.invariant k (omega arith))
