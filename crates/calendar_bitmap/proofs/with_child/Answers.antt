-- An or sets the child; where it is to be clear, an exclusive or with the same word then clears it.
use mathlib.Core.Path.{refl}
use mathlib.Core.Logic.{◌⊎◌, inl, inr}
use Prim.Native.Nat.{ℕ, ◌≤◌, ◌<◌}
use native.Mathlib.Omega.{arith}
use Rattle.calendar_bitmap.proofs.ChildLaws.{child_on, child_off}
use Rattle.calendar_bitmap.proofs.with_child.Goals as goal

in_range : (i a : ℕ) → i < a → a ≤ 64 → (a ≤ i) ⊎ (64 < a) → ⊥
in_range i a l h (inl k) = omega arith
in_range i a l h (inr k) = omega arith

pub returns-then-arity-i : goal.returns-then-arity-i
returns-then-arity-i c = record { child = λ l h. absurd (omega arith); none = λ n. refl }

pub returns-then-arity-gt64 : goal.returns-then-arity-gt64
returns-then-arity-gt64 c = record { child = λ l h. absurd (omega arith); none = λ n. refl }

pub returns-then-set : goal.returns-then-set
returns-then-set c =
    let e = c.child_word-p.ensures in
    record {
      child = λ l h. rw c.if-set.true (child_on _ _ _ _ e l);
      none = λ n. absurd (in_range _ _ c.if-arity-i.false c.if-arity-gt64.false n);
    }

pub returns : goal.returns
returns c =
    let e = c.child_word-p.ensures in
    record {
      child = λ l h. rw c.if-set.false (child_off _ _ _ _ _ e l (child_on _ _ _ _ e l));
      none = λ n. absurd (in_range _ _ c.if-arity-i.false c.if-arity-gt64.false n);
    }
