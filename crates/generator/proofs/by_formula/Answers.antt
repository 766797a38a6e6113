-- The code is the definition, with a product that fits 64 bits.
use mathlib.Core.Path.{refl}
use Rattle.generator.specs.Draw.{next_draw}
use Rattle.generator.proofs.by_formula.Goals as goal

pub returns : goal.returns
unfolding next_draw
returns c = refl
