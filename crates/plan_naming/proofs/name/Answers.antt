-- The place stands in the pair of a station, which is right, so the name lies within its plan.
use Rattle.std.proofs.Common.{◌≡◌, ◌+◌, ◌-◌, ℕ, Ok, Err, length, take, drop, refl, sym, ◌∙◌, arith, length-drop}
use Rattle.std.proofs.lemmas.Result.{err_from_is_err_and}
use lib.Seq.{length-take-le}
use borrow.Author.Tests.{le-leb, lt-leb}
use Rattle.plan_format.specs.Reading.{judging}
use Rattle.plan_format.proofs.Accepted.{accepted}
use Rattle.plan_naming.proofs.Parts.{naming_in, station_right}
use Rattle.plan_naming.proofs.Promised.{places}
use Rattle.plan_naming.proofs.name.Goals as goal

pub returns-in_err-n : goal.returns-in_err-n
returns-in_err-n c =
    let q = err_from_is_err_and c.from_residual.result c.from_residual.ensures.1 in
    let refused : judging c.args.plan.now ≡ Err c.in_err-n.field-0.0 = sym c.judge.ensures.answer ∙ c.in_err-n.was in
    rw (q.1, q.2) (record { places = places (rw (naming_in, refused)); part = tt })

pub returns-then-n-station : goal.returns-then-n-station
returns-then-n-station c =
    let read : judging c.args.plan.now ≡ Ok c.in_ok-n.n = sym c.judge.ensures.answer ∙ c.in_ok-n.was in
    record { places = places (rw (naming_in, read, le-leb _ _ c.if-n-station.true)); part = tt }

pub overflow_cast-k : goal.overflow_cast-k
overflow_cast-k c = omega (arith, (accepted c.args.plan.now _ (sym c.judge.ensures.answer ∙ c.in_ok-n.was)).most)

pub overflow_sub-len : goal.overflow_sub-len
overflow_sub-len c =
    let r = station_right c.args.plan.now _ c.args.station (sym c.judge.ensures.answer ∙ c.in_ok-n.was) c.if-n-station.false in
    let l = c.length_of-len.ensures.0 in
    omega arith

pub slice_bounds-part-end : goal.slice_bounds-part-end
slice_bounds-part-end c =
    let r = station_right c.args.plan.now _ c.args.station (sym c.judge.ensures.answer ∙ c.in_ok-n.was) c.if-n-station.false in
    let o = c.offset_of-at.ensures.0 in
    let l = c.length_of-len.ensures.0 in
    omega arith

pub returns : goal.returns
returns c =
    let p = c.args.plan.now in
    let read : judging p ≡ Ok c.in_ok-n.n = sym c.judge.ensures.answer ∙ c.in_ok-n.was in
    let r = station_right p _ c.args.station read c.if-n-station.false in
    let o = c.offset_of-at.ensures.0 in
    let l = c.length_of-len.ensures.0 in
    let at : ℕ = c.offset_of-at.result + 26 in
    let len : ℕ = c.length_of-len.result - 26 in
    let cut : at + len - at ≡ len = omega arith in
    let long : length (take len (drop at p)) ≡ len = length-take-le len (drop at p) (simp length-drop (omega arith)) in
    record {
      places = places (rw (naming_in, read, lt-leb _ _ c.if-n-station.false, cut, long, o, l));
      part = record { bytes = rw (cut, long); block = refl; start = refl };
    }
