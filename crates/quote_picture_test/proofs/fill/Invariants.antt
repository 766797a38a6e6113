-- Each hour adds 393 heard and 22 lost at most.
use Rattle.std.proofs.Common.{◌≤◌, ◌*◌}
use Rattle.quote_picture_test.proofs.fill.Given as goal

abbrev pub invariant-loop-h : goal.invariant-loop-h
invariant-loop-h l = (l.heard ≤ 393 * l.h) × (l.lost ≤ 22 * l.h)
