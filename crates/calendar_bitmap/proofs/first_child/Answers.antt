-- Counting leading zeros finds the first child: one law, at each of the four widths.
use mathlib.Core.Path.{◌≡◌, refl}
use mathlib.Core.Logic.{inl, inr}
use Prim.Native.Nat.{◌%◌, ◌^◌}
use native.Mathlib.Nat.{mod-eq_of_lt}
use native.Mathlib.Omega.{arith}
use lib.Count.{leading_le}
use Rattle.calendar_bitmap.proofs.ChildLaws.{leading_first, leading_wide, no_arity}
use Rattle.calendar_bitmap.proofs.first_child.Goals as goal

pub returns-in-8 : goal.returns-in-8
returns-in-8 c =
    let x = c.args.x in
    let e = c.in-8.is in
    record { within = omega (arith, leading_le 8 (x % 256)); first = λ k. leading_wide 8 256 x e refl; none = λ n. absurd (n (inl e)) }

pub returns-in-16 : goal.returns-in-16
returns-in-16 c =
    let x = c.args.x in
    let e = c.in-16.is in
    record { within = omega (arith, leading_le 16 (x % 65536)); first = λ k. leading_wide 16 65536 x e refl; none = λ n. absurd (n (inr (inl e))) }

pub returns-in-32 : goal.returns-in-32
returns-in-32 c =
    let x = c.args.x in
    let e = c.in-32.is in
    record { within = omega (arith, leading_le 32 (x % 4294967296)); first = λ k. leading_wide 32 4294967296 x e refl; none = λ n. absurd (n (inr (inr (inl e)))) }

pub returns-in-64 : goal.returns-in-64
returns-in-64 c =
    let x = c.args.x in
    let e = c.in-64.is in
    let l : x % 2 ^ 64 ≡ x = mod-eq_of_lt (omega arith) in
    record { within = leading_le 64 x; first = λ k. rw (e, l) (leading_first 64 x (omega arith)); none = λ n. absurd (n (inr (inr (inr e)))) }

pub returns-in_default : goal.returns-in_default
returns-in_default c = record {
  within = omega arith;
  first = λ k. absurd (no_arity c.args.arity (λ e. omega arith) (λ e. omega arith) (λ e. omega arith) (λ e. omega arith) k);
  none = λ n. refl;
}
