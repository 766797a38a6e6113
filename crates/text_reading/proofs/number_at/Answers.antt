-- Digits without a leading zero whose total fits are a number, and nothing else is.
use Rattle.std.proofs.Common.{◌≡◌, sym, ap, ◌∙◌, ◌+◌, ◌-◌, take, drop, length-drop, arith}
use Rattle.text.specs.Numeral.{digit_count, total}
use Rattle.text.proofs.Numerals.{digit_at, count_within, count_front, digits_alone, total_alone}
use Rattle.text_reading.proofs.Found.{none_here, none_zero, none_over, some}
use Rattle.text_reading.specs.Steps.{total_of}
use Rattle.text_reading.proofs.Cases.{over, sum}
use Rattle.text_reading.proofs.number_at.Goals as goal
use Rattle.text_reading.proofs.number_at.Goals.{else-line-at-eq48-via-then-line-at-eq48+else-n-gt1, else-line-at-eq48-via-else-line-at-eq48}

pub returns-then-n-eq0 : goal.returns-then-n-eq0
returns-then-n-eq0 c = none_here _ _ _ (c.digit_count-n.ensures ∙ count_front (drop c.args.at c.args.line.now)) c.if-n-eq0.true

pub bounds-line-at : goal.bounds-line-at
bounds-line-at c =
    let a = c.args in
    (digit_at a.line.now a.at (omega (arith, (c.digit_count-n.ensures ∙ count_front (drop c.args.at c.args.line.now)), c.if-n-eq0.false))).within

pub returns-then-n-gt1 : goal.returns-then-n-gt1
returns-then-n-gt1 c = none_zero _ _ _ (c.digit_count-n.ensures ∙ count_front (drop c.args.at c.args.line.now)) c.if-line-at-eq48.true c.if-n-gt1.true

pub overflow_add-end : goal.overflow_add-end
overflow_add-end c =
    let w = count_within (drop c.args.at c.args.line.now) in
    let n = c.digit_count-n.ensures ∙ count_front (drop c.args.at c.args.line.now) in
    let z = length-drop c.args.at c.args.line.now in
    omega arith

pub slice_bounds-digit_total-end : goal.slice_bounds-digit_total-end
slice_bounds-digit_total-end c =
    let w = count_within (drop c.args.at c.args.line.now) in
    let n = c.digit_count-n.ensures ∙ count_front (drop c.args.at c.args.line.now) in
    let z = length-drop c.args.at c.args.line.now in
    omega arith

pub digit_total-requires : goal.digit_total-requires
digit_total-requires c =
    let d = drop c.args.at c.args.line.now in
    let n : digit_count d ≡ c.args.at + c.digit_count-n.result - c.args.at = omega (arith, c.digit_count-n.ensures ∙ count_front d) in
    rw (← n) (digits_alone d)

pub returns-in_err-value : goal.returns-in_err-value
returns-in_err-value c =
    let d = drop c.args.at c.args.line.now in
    let n : digit_count d ≡ c.args.at + c.digit_count-n.result - c.args.at = omega (arith, c.digit_count-n.ensures ∙ count_front d) in
    let all : total 0 (take (c.args.at + c.digit_count-n.result - c.args.at) d) ≡ total 0 d = rw (← n) (total_alone 0 d) in
    rw c.from_residual.ensures
    (none_over _ _ _ (c.digit_count-n.ensures ∙ count_front (drop c.args.at c.args.line.now)) (over _ (sym c.in_err-value.was ∙ c.digit_total.ensures ∙ ap total_of all)))

pub returns : goal.returns
returns c =
    let d = drop c.args.at c.args.line.now in
    let n : digit_count d ≡ c.args.at + c.digit_count-n.result - c.args.at = omega (arith, c.digit_count-n.ensures ∙ count_front d) in
    let all : total 0 (take (c.args.at + c.digit_count-n.result - c.args.at) d) ≡ total 0 d = rw (← n) (total_alone 0 d) in
    let s = sum c.in_ok-value.value _ (sym c.in_ok-value.was ∙ c.digit_total.ensures ∙ ap total_of all) in
    some _ _ _ (c.digit_count-n.ensures ∙ count_front (drop c.args.at c.args.line.now)) (omega arith)
    (λ zero. elim c.else-line-at-eq48.branch [
      | else-line-at-eq48-via-then-line-at-eq48+else-n-gt1 w ↦ w.if-n-gt1.false
      | else-line-at-eq48-via-else-line-at-eq48 w ↦ absurd (w.if-line-at-eq48.false zero)
    ])
    _ s.0 s.1
