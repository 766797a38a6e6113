-- The first child of what is left without the children before.
use Rattle.calendar_bitmap.proofs.ChildLaws.{rest_first}
use Rattle.calendar_bitmap.proofs.first_from.Goals as goal

pub returns : goal.returns
returns c =
    let f = c.first_child.ensures in
    record { within = f.within; first = λ k. rest_first _ _ _ _ _ c.rest.ensures (f.first k); none = f.none }
