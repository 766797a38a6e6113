-- `put_name` meets its contract: the bytes passed are stored.
use Rattle.std.proofs.Common.{◌≡◌, ◌+◌, ◌-◌, length, take, drop, sym, arith, append_assoc}
use lib.Seq.{sets-eq, length-take-le, drop-drop}
use Rattle.plan_writing.proofs.put_name.Goals as goal

pub returns : goal.returns
returns c =
    let a = c.args in
    let e = c.copy_from_slice.ensures.after in
    let cut : a.at + a.n - a.at ≡ a.n = omega arith in
    let long : length (take a.n a.name) ≡ a.n = length-take-le a.n a.name (omega arith) in
    let s = sets-eq (take a.n a.name) a.out.now a.at (omega (arith, long)) in
    rw (cut, e, drop-drop, s, long) (sym (append_assoc (take a.at a.out.now) (take a.n a.name) (drop (a.at + a.n) a.out.now)))
