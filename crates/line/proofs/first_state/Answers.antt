-- Field by field it is the definition's.
use mathlib.Core.Path.{refl}
use Rattle.line.proofs.first_state.Goals as goal

pub returns : goal.returns
returns c = refl
