-- Each refusal has its number, and an accepted floor rises.
use mathlib.Core.Path.{sym, ◌∙◌}
use Rattle.calendar_floor.proofs.Floor.{none_before}
use Rattle.calendar_floor.proofs.Advancing.{advance_11, advance_12, advance_15, advance_done}
use Rattle.calendar_floor.proofs.advance.Goals as goal

pub returns-then-floor : goal.returns-then-floor
returns-then-floor c =
    let args = c.args in
    advance_11 args.b.now args.floor c.if-floor.true

pub returns-then-floor-word : goal.returns-then-floor-word
returns-then-floor-word c =
    let args = c.args in
    advance_12 args.b.now args.floor c.if-floor.false (rw (← c.word.ensures) c.if-floor-word.true)

pub returns-then-early : goal.returns-then-early
returns-then-early c =
    let args = c.args in
    let if1 = c.if-floor in
    advance_15 args.b.now args.floor if1.false (rw (← c.word.ensures)
    c.if-floor-word.false) (λ S. sym c.if-early.true ∙ c.early.ensures S)

pub returns : goal.returns
returns c =
    let args = c.args in
    let if1 = c.if-floor in
    let word = c.word in
    let if2 = c.if-floor-word in
    let early = c.early in
    let if3 = c.if-early in
    let rise = c.rise in
    let up = rw word.ensures at if2.false in
    advance_done args.b.now args.floor if1.false up rise.new.b (λ S. sym if3.false ∙ early.ensures S)
    (λ S. rise.ensures _ S (none_before args.b.now args.floor S (sym if3.false ∙ early.ensures S)) up)
