-- The rank of a station is due * 256 + station.
use mathlib.Core.Path.{sym, ap, ◌∙◌}
use Prim.Native.Nat.{ℕ, ◌+◌, ◌*◌, ◌%◌}
use Rattle.calendar_cells.proofs.Places.{rank_station}
use Rattle.calendar_cells.specs.Table.{due_of}
use Rattle.calendar_lists.proofs.rank.Goals as goal

pub returns : goal.returns
unfolding due_of
returns c =
    let args = c.args in
    let pre = c.requires in
    ap (λ (w : ℕ). w % 2199023255552 * 256 + args.s) c.word.ensures ∙ sym (rank_station (due_of args.b.now) args.s (pre))
