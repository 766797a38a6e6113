-- Each operation is its stores, one after the other, in the order of the code.
use mathlib.Core.Path.{◌≡◌}
use mathlib.Core.List.{List}
use Prim.Native.Nat.{ℕ}
use Rattle.rings.specs.Table.{next_of, prev_of, with_next, with_prev, empty_at, link_after, unlinked}

pub empty_made : (t : List ℕ) (o n s : ℕ) {t₁ t₂ : List ℕ} → t₁ ≡ with_next t o n s s → t₂ ≡ with_prev t₁ o n s s → t₂ ≡ empty_at t o n s
unfolding empty_at
empty_made t o n s e₁ e₂ = rw (e₂, e₁)

pub insert_made : (t : List ℕ) (o n a x : ℕ) {c : ℕ} {t₁ t₂ t₃ t₄ : List ℕ} → c ≡ next_of t o a → t₁ ≡ with_next t o n x c → t₂ ≡ with_prev t₁ o n x a
    → t₃ ≡ with_next t₂ o n a x → t₄ ≡ with_prev t₃ o n c x → t₄ ≡ link_after t o n a x
unfolding link_after
insert_made t o n a x e e₁ e₂ e₃ e₄ = rw (e₄, e₃, e₂, e₁, e)

pub unlink_made : (t : List ℕ) (o n x : ℕ) {p q : ℕ} {t₁ t₂ : List ℕ} → p ≡ prev_of t o x → q ≡ next_of t o x → t₁ ≡ with_next t o n p q
    → t₂ ≡ with_prev t₁ o n q p → t₂ ≡ unlinked t o n x
unfolding unlinked
unlink_made t o n x ep eq e₁ e₂ = rw (e₂, e₁, ep, eq)
