-- A refusal leaves the list as it was, and as many stations as the answer says can be read.
use Rattle.std.proofs.Common.{◌≡◌, refl, ap, sym, ◌∙◌, subst, length, rules}
use Rattle.std.proofs.lemmas.Result.{err_from_is_err_and}
use Rattle.plan_format.specs.Plan.{stations_from}
use Rattle.plan_format.specs.Reading.{reading, read_of}
use Rattle.plan_format.proofs.Accepted.{Readable, reading_readable}
use Rattle.plan_reading.proofs.read.Goals as goal

pub returns-in_err-n : goal.returns-in_err-n
unfolding stations_from
returns-in_err-n c =
    let q = err_from_is_err_and c.from_residual.result c.from_residual.ensures.1 in
    rw (q.1, q.2) (record { judges = c.in_err-n.ensures; typed = search rules; records = refl })

pub fill-requires : goal.fill-requires
fill-requires c =
    let p = c.args.plan.now in
    let room = length c.args.stations.now in
    let e : read_of (reading p room) ≡ c.in_ok-n.n = ap read_of (sym c.judge_in.ensures.answer ∙ c.in_ok-n.was) in
    let r : Readable p room c.in_ok-n.n = subst (Readable p room) e (reading_readable p room) in
    (r.held, (r.few, r.right))
