-- A buffer that is too short is refused, then a number that no slot has (`unknown-post`); else the node is that of the post (`known-post`).
use mathlib.Core.Path.{sym, ◌∙◌}
use borrow.Author.Tests.{not-true, not-false}
use Rattle.std.proofs.lemmas.Result.{err_from_is_err_and}
use Rattle.engine_events.proofs.Fitting.{fits_true}
use Rattle.engine_promises.proofs.Refused.{judges_refusal}
use Rattle.engine_promises.proofs.ShortBuffer.{unfit_judged}
use Rattle.engine_posting.proofs.Retracting.{unknown_post, known_post}
use Rattle.engine_posting.proofs.judge_retract.Goals as goal

pub returns-then-not-fits : goal.returns-then-not-fits
returns-then-not-fits c =
    judges_refusal _ _ (unfit_judged c.stations-n.ensures c.capacity-c.ensures c.fits.ensures (not-true _ c.if-not-fits.true-raw))

pub find_post-requires : goal.find_post-requires
find_post-requires c =
    let w = fits_true _ _ _ c.fits.ensures (not-false _ c.if-not-fits.false-raw) in
    (w.0, w.1)

pub returns-in_err-node : goal.returns-in_err-node
returns-in_err-node c =
    let p = err_from_is_err_and c.from_residual.result c.from_residual.ensures.1 in
    rw (p.1, p.2) (unknown_post c.stations-n.ensures c.capacity-c.ensures c.find_post.ensures (sym c.ok_or.ensures.value ∙ c.in_err-node.was))

pub returns : goal.returns
returns c = known_post c.stations-n.ensures c.capacity-c.ensures c.find_post.ensures (sym c.ok_or.ensures.value ∙ c.in_ok-node.was)
