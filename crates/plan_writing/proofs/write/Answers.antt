-- The two passes together: a refusal that the first finds ends the call, and otherwise the second writes.
use Rattle.std.proofs.Common.{◌≡◌, length}
use Rattle.std.proofs.lemmas.Result.{err_from_is_err_and}
use Rattle.plan_writing.proofs.WriteLaw.{First, first_most, second_held, refused, written}
use Rattle.plan_writing.proofs.write.Goals as goal

pub answer-requires : goal.answer-requires
answer-requires c =
    let f : First c.args.n c.args.stations.now c.args.out.now c.each-q.new.out c.first_pen-p.result c.each-q.result = record { start = c.first_pen-p.ensures; pass = c.each-q.ensures; typed = c.known.ensures } in
    first_most f

pub returns-in_err-len : goal.returns-in_err-len
returns-in_err-len c =
    let f : First c.args.n c.args.stations.now c.args.out.now c.each-q.new.out c.first_pen-p.result c.each-q.result = record { start = c.first_pen-p.ensures; pass = c.each-q.ensures; typed = c.known.ensures } in
    let size : length c.each-q.new.out ≡ length c.args.out.now = c.each-q.auto.out in
    let answers = rw size at c.answer.ensures in
    let e = err_from_is_err_and c.from_residual.result c.from_residual.ensures.1 in
    rw (e.1, e.2) (refused f answers c.in_err-len.was)

pub pen_of-requires : goal.pen_of-requires
pen_of-requires c =
    let f : First c.args.n c.args.stations.now c.args.out.now c.each-q.new.out c.first_pen-p.result c.each-q.result = record { start = c.first_pen-p.ensures; pass = c.each-q.ensures; typed = c.known.ensures } in
    first_most f

pub each-requires : goal.each-requires
each-requires c =
    let f : First c.args.n c.args.stations.now c.args.out.now c.each-q.new.out c.first_pen-p.result c.each-q.result = record { start = c.first_pen-p.ensures; pass = c.each-q.ensures; typed = c.known.ensures } in
    second_held f c.pen_of.ensures

pub returns : goal.returns
returns c =
    let f : First c.args.n c.args.stations.now c.args.out.now c.each-q.new.out c.first_pen-p.result c.each-q.result = record { start = c.first_pen-p.ensures; pass = c.each-q.ensures; typed = c.known.ensures } in
    let size : length c.each-q.new.out ≡ length c.args.out.now = c.each-q.auto.out in
    let answers = rw size at c.answer.ensures in
    written f answers c.in_ok-len.was c.pen_of.ensures c.each.ensures
