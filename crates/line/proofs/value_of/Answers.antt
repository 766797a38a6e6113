-- A frame's value is made of a number of 16 bits and one of 8, so it fits.
use Rattle.line.proofs.value_of.Goals as goal

pub returns-in-Frame : goal.returns-in-Frame
returns-in-Frame c = rw c.in-Frame.is
