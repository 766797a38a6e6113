-- A new event, as the rules and as the held events have it.
use mathlib.Core.List.{List}
use Rattle.line.specs.declared.Event.{Event}
use Rattle.line.specs.Order.{Differ}
use Rattle.line.proofs.Order.{differ_sym}
use Rattle.rules.specs.Held.{Held, event}
use Rattle.line.proofs.Members.{all_in}
use Rattle.rules.proofs.Replay.RunsLeft.{differ_same}
use Rattle.rules.proofs.Undo.Agree as G
use Rattle.engine_moves.specs.Promises.{New}

pub as_new : (y : Event) (h : List Held) → G.New y h → New y h
as_new y h a z m = differ_same (differ_sym (all_in (λ v. Differ y (event v)) m a))
