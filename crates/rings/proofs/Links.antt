-- What each operation does to the links: insertion sets four, removal two, and the others are as they were.
use mathlib.Core.Path.{◌≡◌, ◌∙◌}
use mathlib.Core.Logic.{◌≢◌}
use mathlib.Core.List.{List}
use Prim.Native.Nat.{ℕ, ◌<◌}
use Rattle.rings.specs.Table.{next_of, prev_of, empty_at, link_after, unlinked}
use Rattle.rings.specs.Ring.{Room}
use Rattle.rings.proofs.Stores.{next_confined, prev_confined, next_other, prev_other, next_prev, prev_next, room_same, next_same, prev_same}

-- from nx, pv to nx', pv' the links changed at most out of a and x, and into b and x
pub record Only (nx pv nx' pv' : ℕ → ℕ) (a b x : ℕ) : Type 0 where
  pub nexts : (u : ℕ) → u ≢ a → u ≢ x → nx' u ≡ nx u
  pub prevs : (u : ℕ) → u ≢ b → u ≢ x → pv' u ≡ pv u

-- x came between a and b
pub record Linked (nx pv nx' pv' : ℕ → ℕ) (a b x : ℕ) : Type 0 where
  pub only : Only nx pv nx' pv' a b x
  pub out_a : nx' a ≡ x
  pub into_x : pv' x ≡ a
  pub out_x : nx' x ≡ b
  pub into_b : pv' b ≡ x

-- x went from between a and b
pub record Bridged (nx pv nx' pv' : ℕ → ℕ) (a b x : ℕ) : Type 0 where
  pub only : Only nx pv nx' pv' a b x
  pub out_a : nx' a ≡ b
  pub into_b : pv' b ≡ a

module _ {t : List ℕ} {o n : ℕ} (T : Room t o n) where
  pub insert_links : (a b x : ℕ) → a < n → b < n → x < n → next_of t o a ≡ b → x ≢ a → x ≢ b
      → Linked (next_of t o) (prev_of t o) (next_of (link_after t o n a x) o) (prev_of (link_after t o n a x) o) a b x
  unfolding link_after
  insert_links a b x ha hb hx e xa xb =
      let T₁ = room_same (next_confined t o n x b) T in
      let T₂ = room_same (prev_confined _ o n x a) T₁ in
      let T₃ = room_same (next_confined _ o n a x) T₂ in
      record {
        only =
            record {
              nexts = λ u ua ux. next_prev _ o n _ _ _ ∙ next_other _ o n a x u ua ∙ next_prev _ o n x a u ∙ next_other t o n x _ u ux;
              prevs = λ u ub ux. rw e (prev_other _ o n b x u ub ∙ prev_next _ o n a x u ∙ prev_other _ o n x a u ux ∙ prev_next t o n x b u);
            };
        out_a = rw e (next_prev _ o n b x a ∙ next_same T₂ a x ha hx);
        into_x = rw e (prev_other _ o n b x x xb ∙ prev_next _ o n a x x ∙ prev_same T₁ x a hx ha);
        out_x = rw e (next_prev _ o n b x x ∙ next_other _ o n a x x xa ∙ next_prev _ o n x a x ∙ next_same T x b hx hb);
        into_b = rw e (prev_same T₃ b x hb hx);
      }

  pub unlink_links : (a b x : ℕ) → a < n → b < n → prev_of t o x ≡ a → next_of t o x ≡ b
      → Bridged (next_of t o) (prev_of t o) (next_of (unlinked t o n x) o) (prev_of (unlinked t o n x) o) a b x
  unfolding unlinked
  unlink_links a b x ha hb ea eb =
      record {
        only =
            record {
              nexts = λ u ua ux. rw (ea, eb) (next_prev _ o n b a u ∙ next_other t o n a b u ua);
              prevs = λ u ub ux. rw (ea, eb) (prev_other _ o n b a u ub ∙ prev_next t o n a b u);
            };
        out_a = rw (ea, eb) (next_prev _ o n b a a ∙ next_same T a b ha hb);
        into_b = rw (ea, eb) (prev_same (room_same (next_confined t o n a b) T) b a hb ha);
      }

  pub empty_links : (s : ℕ) → s < n
      → Bridged (next_of t o) (prev_of t o) (next_of (empty_at t o n s) o) (prev_of (empty_at t o n s) o) s s s
  unfolding empty_at
  empty_links s h =
      record {
        only =
            record {
              nexts = λ u us _. next_prev _ o n s s u ∙ next_other t o n s s u us;
              prevs = λ u us _. prev_other _ o n s s u us ∙ prev_next t o n s s u;
            };
        out_a = next_prev _ o n s s s ∙ next_same T s s h h;
        into_b = prev_same (room_same (next_confined t o n s s) T) s s h h;
      }
