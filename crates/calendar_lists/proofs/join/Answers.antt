-- Two stores, where place and station are in range.
use mathlib.Core.Path.{refl}
use mathlib.Core.Logic.{inl, inr}
use Rattle.calendar_lists.proofs.Joins.{join_in, join_nothing, join_two}
use Rattle.calendar_lists.proofs.join.Goals as goal

pub returns-then-p-ge66048 : goal.returns-then-p-ge66048
returns-then-p-ge66048 c = record {
  joined = join_nothing _ _ _ (inl c.if-p-ge66048.true);
  none = λ h. refl;
}

pub returns-then-n-gt256 : goal.returns-then-n-gt256
returns-then-n-gt256 c = record {
  joined = join_nothing _ _ _ (inr c.if-n-gt256.true);
  none = λ h. refl;
}

pub returns : goal.returns
returns c =
    let if1 = c.if-p-ge66048 in
    let if2 = c.if-n-gt256 in
    let set_link = c.set_link in
    let set_back = c.set_back in
    record {
      joined = join_two _ _ _ _ _ if1.false if2.false set_link.ensures set_back.ensures;
      none = λ h. absurd (join_in _ _ if1.false if2.false h);
    }
