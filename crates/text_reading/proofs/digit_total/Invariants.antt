-- What is read is the total of the digits that are passed, and all bytes that are left are digits.
use Rattle.std.proofs.Common.{◌≡◌, ◌+◌, ◌≤◌, length, drop}
use Rattle.text.specs.Numeral.{digit_count, total}
use Rattle.text_reading.proofs.digit_total.Given as goal

abbrev pub invariant-loop-b : goal.invariant-loop-b
invariant-loop-b l =
    (total 0 l.digits ≡ total l.v (drop l.b-index l.digits)) × (l.b-index + digit_count (drop l.b-index l.digits) ≡ length l.digits)
    × (l.v ≤ 18446744073709551615)
