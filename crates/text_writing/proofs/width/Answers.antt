-- Each turn takes one digit off, and counts it.
use native.Mathlib.Omega.{arith}
use Rattle.text.proofs.Reading.{length_one, length_more}
use Rattle.text.proofs.Places.{at_most_20}
use Rattle.text_writing.proofs.width.Goals as goal

pub loop-rest-init : goal.loop-rest-init
loop-rest-init c = (omega arith, omega arith)

pub overflow_add-n : goal.overflow_add-n
overflow_add-n c = omega (arith, at_most_20 c.args.v)

pub loop-rest-smaller : goal.loop-rest-smaller
loop-rest-smaller c = omega arith

pub loop-rest-preserved : goal.loop-rest-preserved
loop-rest-preserved c = let more = length_more c.loop-rest.rest (omega arith) (omega arith) in (omega arith, omega arith)

pub returns : goal.returns
returns c = let one = length_one c.loop-rest.rest (omega arith) in omega arith
