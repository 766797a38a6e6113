-- Each operation, on any bytes, keeps the length and changes no byte outside its table.
use mathlib.Core.List.{List}
use Prim.Native.Nat.{ℕ, ◌*◌}
use Rattle.rings.specs.Table.{empty_at, link_after, unlinked, Frame}
use Rattle.rings.proofs.Frames.{frame_on}
use Rattle.rings.proofs.Stores.{next_confined, prev_confined}

pub empty_frame : (t : List ℕ) (o n s : ℕ) → Frame o (4 * n) t (empty_at t o n s)
unfolding empty_at
empty_frame t o n s = frame_on (next_confined t o n s s) (prev_confined _ o n s s)

pub insert_frame : (t : List ℕ) (o n a x : ℕ) → Frame o (4 * n) t (link_after t o n a x)
unfolding link_after
insert_frame t o n a x =
    frame_on (frame_on (next_confined t o n x _) (prev_confined _ o n x a)) (frame_on (next_confined _ o n a x) (prev_confined _ o n _ x))

pub unlink_frame : (t : List ℕ) (o n x : ℕ) → Frame o (4 * n) t (unlinked t o n x)
unfolding unlinked
unlink_frame t o n x = frame_on (next_confined t o n _ _) (prev_confined _ o n _ _)
