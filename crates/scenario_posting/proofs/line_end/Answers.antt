-- The line's bytes are those before the first byte 10.
use Rattle.std.proofs.Common.{◌≡◌, ap, ◌∙◌, ◌-◌, length, take, drop, length-drop, arith}
use lib.Dec.{eqb}
use lib.Seq.{take_all}
use Rattle.std.specs.List.{position_or_len}
use Rattle.scenario_posting.proofs.LineEnds.{ends}
use Rattle.scenario_posting.proofs.line_end.Goals as goal

pub overflow_add-result : goal.overflow_add-result
overflow_add-result c =
    let text = c.args.text.now in
    let rest : take (length text - c.args.from) (drop c.args.from text) ≡ drop c.args.from text = take_all _ _ (omega (arith, length-drop c.args.from text)) in
    let e = (ends text c.args.from c.line_len.result c.requires (c.line_len.ensures ∙ ap (position_or_len (λ b. eqb b 10)) rest)).within in
    omega arith

pub returns : goal.returns
returns c =
    let text = c.args.text.now in
    let rest : take (length text - c.args.from) (drop c.args.from text) ≡ drop c.args.from text = take_all _ _ (omega (arith, length-drop c.args.from text)) in
    ends text c.args.from c.line_len.result c.requires (c.line_len.ensures ∙ ap (position_or_len (λ b. eqb b 10)) rest)
