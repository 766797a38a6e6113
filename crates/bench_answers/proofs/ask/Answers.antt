-- Each command by its call, and the line of its answer.
use mathlib.Core.Path.{refl}
use Rattle.std.proofs.lemmas.Result.{err_from_is_err_and}
use Rattle.bench_answers.specs.Shown.{entry_lines, lines_of}
use Rattle.bench_answers.proofs.Answering.{asks_as}
use Rattle.bench_answers.proofs.ask.Goals as goal

-- ---- the call is accepted

pub returns-in_ok-number-in-Post : goal.returns-in_ok-number-in-Post
unfolding lines_of entry_lines
returns-in_ok-number-in-Post c = asks_as c.in-Post.is _ c.in_ok-number-in-Post.ensures refl

pub returns-in_ok-undone-in-Retract : goal.returns-in_ok-undone-in-Retract
unfolding lines_of entry_lines
returns-in_ok-undone-in-Retract c = asks_as c.in-Retract.is _ c.in_ok-undone-in-Retract.ensures refl

pub returns-in_ok-station-in-Run : goal.returns-in_ok-station-in-Run
unfolding lines_of entry_lines
returns-in_ok-station-in-Run c = asks_as c.in-Run.is _ c.in_ok-station-in-Run.ensures refl

pub returns-in_ok-station-in-RunStation : goal.returns-in_ok-station-in-RunStation
unfolding lines_of entry_lines
returns-in_ok-station-in-RunStation c = asks_as c.in-RunStation.is _ c.in_ok-station-in-RunStation.ensures refl

pub returns-in_ok-count-in-Commit : goal.returns-in_ok-count-in-Commit
unfolding lines_of entry_lines
returns-in_ok-count-in-Commit c = asks_as c.in-Commit.is _ c.in_ok-count-in-Commit.ensures.answered refl

-- ---- it is refused

pub returns-in_err-number-in-Post : goal.returns-in_err-number-in-Post
unfolding lines_of entry_lines
returns-in_err-number-in-Post c =
    let p = err_from_is_err_and c.from_residual.result c.from_residual.ensures.1 in
    rw (p.1, p.2) (asks_as c.in-Post.is _ c.in_err-number-in-Post.ensures refl)

pub returns-in_err-undone-in-Retract : goal.returns-in_err-undone-in-Retract
unfolding lines_of entry_lines
returns-in_err-undone-in-Retract c =
    let p = err_from_is_err_and c.from_residual-in_err-undone-in-Retract.result c.from_residual-in_err-undone-in-Retract.ensures.1 in
    rw (p.1, p.2) (asks_as c.in-Retract.is _ c.in_err-undone-in-Retract.ensures refl)

pub returns-in_err-station-in-Run : goal.returns-in_err-station-in-Run
unfolding lines_of entry_lines
returns-in_err-station-in-Run c =
    let p = err_from_is_err_and c.from_residual-in_err-station-in-Run.result c.from_residual-in_err-station-in-Run.ensures.1 in
    rw (p.1, p.2) (asks_as c.in-Run.is _ c.in_err-station-in-Run.ensures refl)

pub returns-in_err-station-in-RunStation : goal.returns-in_err-station-in-RunStation
unfolding lines_of entry_lines
returns-in_err-station-in-RunStation c =
    let p = err_from_is_err_and c.from_residual-in_err-station-in-RunStation.result c.from_residual-in_err-station-in-RunStation.ensures.1 in
    rw (p.1, p.2) (asks_as c.in-RunStation.is _ c.in_err-station-in-RunStation.ensures refl)

pub returns-in_err-count-in-Commit : goal.returns-in_err-count-in-Commit
unfolding lines_of entry_lines
returns-in_err-count-in-Commit c =
    let p = err_from_is_err_and c.from_residual-in_err-count-in-Commit.result c.from_residual-in_err-count-in-Commit.ensures.1 in
    rw (p.1, p.2) (asks_as c.in-Commit.is _ c.in_err-count-in-Commit.ensures.answered refl)
