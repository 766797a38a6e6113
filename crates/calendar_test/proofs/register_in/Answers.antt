-- The call's promise is about the part, and the bytes on both sides stay.
use Rattle.std.proofs.Common.{◌-◌, ◌++◌, take, drop, sym, ap, ◌∙◌, subst, arith, length-take-le, take_at, drop_at}
use borrow.Rule.Slice.PartMut.{post_of, mid_len, take_put, drop_put}
use Rattle.calendar_header.specs.Rules.{Calendar, register_checks, registered_at}
use Rattle.calendar_header.specs.Promises.{Obeys}
use Rattle.calendar_test.proofs.register_in.Goals as goal

pub returns : goal.returns
returns c =
    let args = c.args in
    let pre = c.requires in
    let register = c.register in
    let a = args in
    let xs = args.b.now in
    let ys = register.new.b in
    let k = a.to - a.from in
    let size = register.auto.b ∙ mid_len a.from a.to xs pre.1 in
    let before = length-take-le a.from xs (omega (arith, pre)) in
    let part = ap (take k) (drop_at (take a.from xs) (ys ++ post_of a.from k xs) a.from before) ∙ take_at ys (post_of a.from k xs) k size in record {
      obeys = subst (Obeys (λ (q : Calendar). register_checks q a.station a.time) (λ (q : Calendar). registered_at q a.station a.time)
          (take k (drop a.from xs)) register.result) (sym part) register.ensures;
      before = take_put a.from k xs ys (omega (arith, pre));
      beyond = drop_put a.from a.to xs ys pre.0 pre.1 size;
    }
