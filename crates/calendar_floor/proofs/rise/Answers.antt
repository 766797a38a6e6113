-- Below the end of the block only the floor's word is written.
use Rattle.calendar_floor.proofs.Floor.{risen_within}
use Rattle.calendar_floor.proofs.rise.Goals as goal

pub returns-then-floor-word : goal.returns-then-floor-word
returns-then-floor-word c =
    let args = c.args in
    let pre = c.requires in
    let word = c.word in
    let set_word = c.set_word in
    λ a S A up. risen_within a args.b.now set_word.new.b args.floor set_word.ensures pre S A up
    (rw (← word.ensures) c.if-floor-word.true)
