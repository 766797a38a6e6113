-- The three refusals are those that end nothing.
use Rattle.engine_until.specs.Steps.{on, ends}
use Rattle.engine_until.proofs.Endings.{ending}
use Rattle.engine_until.proofs.after_refusal.Goals as goal

pub returns-in-Idle : goal.returns-in-Idle
returns-in-Idle c = on

pub returns-in_default : goal.returns-in_default
returns-in_default c = ends (ending c.args.e c.in_default.not-Idle c.in_default.not-Unrun c.in_default.not-Full)
