-- What is read is the total of the digits that are passed: where it is over, so is the whole (`over`).
use Rattle.std.proofs.Common.{◌≡◌, sym, ap, ◌∙◌, List, None, ℕ, ◌+◌, ◌-◌, ◌*◌, ◌<◌, ◌≤◌, length, get_or, drop, arith}
use borrow.Author.Tests.{le-leb, lt-leb}
use Rattle.text.specs.Numeral.{digit_count, total}
use Rattle.text.proofs.Numerals.{Digit, at_digit, sum_digit, digit_at, total_stops, stops_count, total_least}
use Rattle.text_reading.specs.Steps.{total_of}
use Rattle.text_reading.proofs.digit_total.Goals as goal

-- a turn at byte i, with v so far
record Turn (xs : List ℕ) (i v : ℕ) : Type 0 where
  digit : Digit xs i
  goes : total 0 xs ≡ total (10 * v + (get_or xs i 0 - 48)) (drop (i + 1) xs)
  left : i + 1 + digit_count (drop (i + 1) xs) ≡ length xs
  least : 10 * v + (get_or xs i 0 - 48) ≤ total 0 xs

turn : (xs : List ℕ) (i v : ℕ) → i < length xs → total 0 xs ≡ total v (drop i xs) → i + digit_count (drop i xs) ≡ length xs → Turn xs i v
turn xs i v l t n =
    let d : Digit xs i = digit_at xs i (omega arith) in
    let g : total 0 xs ≡ total (10 * v + (get_or xs i 0 - 48)) (drop (i + 1) xs) = t ∙ sum_digit xs i v d in
    record {
      digit = d;
      goes = g;
      left = let z = at_digit xs i d in omega arith;
      least = let z = total_least (10 * v + (get_or xs i 0 - 48)) (drop (i + 1) xs) in omega arith;
    }

over : (t : ℕ) → 18446744073709551615 < t → None ≡ total_of t
over t h = rw (lt-leb t 18446744073709551615 h)

pub overflow_sub-b : goal.overflow_sub-b
overflow_sub-b c = let t = turn _ _ _ c.loop-b-test.true c.loop-b.invariant.0 c.loop-b.invariant.1 in t.digit.least

pub returns-in_err-checked_mul : goal.returns-in_err-checked_mul
returns-in_err-checked_mul c =
    let t = turn _ _ _ c.loop-b-test.true c.loop-b.invariant.0 c.loop-b.invariant.1 in
    let wide = c.in_err-checked_mul.ensures in
    rw c.from_residual.ensures (over _ (omega (arith, t.least)))

pub returns-in_err-v : goal.returns-in_err-v
returns-in_err-v c =
    let t = turn _ _ _ c.loop-b-test.true c.loop-b.invariant.0 c.loop-b.invariant.1 in
    let tens = c.in_ok-checked_mul.ensures in
    let wide = c.in_err-v.ensures in
    rw c.from_residual-in_err-v.ensures (over _ (omega (arith, t.least)))

pub loop-b-preserved : goal.loop-b-preserved
loop-b-preserved c =
    let t = turn _ _ _ c.loop-b-test.true c.loop-b.invariant.0 c.loop-b.invariant.1 in
    let tens = c.in_ok-checked_mul.ensures in
    let sum = c.in_ok-v.ensures in
    let v : 10 * c.loop-b.v + (get_or c.args.digits.now c.loop-b.b-index 0 - 48) ≡ c.in_ok-v.v = omega arith in
    (t.goes ∙ ap (λ (n : ℕ). total n (drop (c.loop-b.b-index + 1) c.args.digits.now)) v, t.left, omega arith)

pub returns : goal.returns
returns c =
    let l = c.loop-b in
    let z : digit_count (drop l.b-index c.args.digits.now) ≡ 0 = omega arith in
    let e : l.v ≡ total 0 c.args.digits.now = sym (l.invariant.0 ∙ total_stops l.v _ (stops_count _ z)) in
    rw (← e, le-leb l.v 18446744073709551615 (omega arith))
