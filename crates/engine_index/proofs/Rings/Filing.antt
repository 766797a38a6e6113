-- The walk back from a ring's last node ends at the last cell before the event, so that the node goes to the event's place.
use mathlib.Core.Path.{◌≡◌, refl}
use mathlib.Core.Logic.{◌≢◌}
use mathlib.Core.Bool.{Bool, true, false, cond, ◌||◌}
use mathlib.Core.List.{List, [], ◌∷◌, ◌++◌}
use Prim.Native.Nat.{ℕ, ◌*◌, ◌≤◌}
use native.Mathlib.Omega.{arith}
use borrow.Author.Tests.{eq-eqb, ne_eqb}
use lib.Dec.{eqb}
use Rattle.line.specs.declared.Event.{Event}
use Rattle.line.specs.Event.{before}
use Rattle.line.proofs.Order.{asym}
use Rattle.rules.specs.Held.{Held, event}
use Rattle.rings.specs.Table.{link_after}
use Rattle.rings.specs.Ring.{last_of, RingIn}
use Rattle.rings.specs.Walk.{Passes}
use Rattle.rings.proofs.Places.{last_of_lem}
use Rattle.rings.proofs.Walks.{walk_back_last}
use Rattle.engine_index.specs.Represents.{Cell, nodes_by, HeldAt, Stored, AllBefore, AllAfter}
use Rattle.engine_index.specs.Steps.{stop_at, filed}
use Rattle.engine_index.proofs.Slots.SlotBytes.{held_event}

module _ (xs : List ℕ) (n s : ℕ) (e : Event) where
  stop_sentinel : stop_at xs n s e s ≡ true
  unfolding stop_at
  stop_sentinel = rw (eq-eqb s s refl)

  stop_before : (x : ℕ) (h : Held) → HeldAt n xs x h → before (event h) e ≡ true → stop_at xs n s e x ≡ true
  unfolding stop_at
  stop_before x h H b = rw (held_event n xs x h H, b) (go (eqb x s))
    where
      go : (v : Bool) → (v || true) ≡ true
      go true = refl
      go false = refl

  stop_after : (x : ℕ) (h : Held) → HeldAt n xs x h → x ≢ s → before e (event h) ≡ true → stop_at xs n s e x ≡ false
  unfolding stop_at
  stop_after x h H d b = rw (ne_eqb x s d, held_event n xs x h H) (asym (record { is = b })).is

  module _ (t : Held → Bool) where
    stop_last : (A : List Cell) (a : ℕ) → Stored n xs A → AllBefore A e → stop_at xs n s e a ≡ true → stop_at xs n s e (last_of a (nodes_by t A)) ≡ true
    stop_last [] a T b h = h
    stop_last (y ∷ A) a T b h =
        go (t y.held) (stop_last A a T.3 b.1 h)
        (stop_last A y.node T.3 b.1 (stop_before y.node y.held T.0 b.0))
      where
        go : (v : Bool) → stop_at xs n s e (last_of a (nodes_by t A)) ≡ true → stop_at xs n s e (last_of y.node (nodes_by t A)) ≡ true
            → stop_at xs n s e (last_of a (cond v (y.node ∷ nodes_by t A) (nodes_by t A))) ≡ true
        go true p q = q
        go false p q = p

    passes : (B : List Cell) → s ≤ 2 * n → Stored n xs B → AllAfter e B → Passes (stop_at xs n s e) (nodes_by t B)
    passes [] l T b = tt
    passes (y ∷ B) l T b = go (t y.held) (passes B l T.3 b.1) (stop_after y.node y.held T.0 (λ h. absurd (omega (arith, T.1))) b.0)
      where
        go : (v : Bool) → Passes (stop_at xs n s e) (nodes_by t B) → stop_at xs n s e y.node ≡ false
            → Passes (stop_at xs n s e) (cond v (y.node ∷ nodes_by t B) (nodes_by t B))
        go true p q = (q, p)
        go false p q = p

    -- the ring of s has the cells of A, whose events come before e, and those of B, which come after it
    pub filed_at : (o k : ℕ) (A B : List Cell) (x : ℕ) → s ≤ 2 * n → RingIn xs o k s (nodes_by t A ++ nodes_by t B) → Stored n xs A → Stored n xs B
        → AllBefore A e → AllAfter e B → filed xs n o k s e x ≡ link_after xs o k (last_of s (nodes_by t A)) x
    unfolding filed
    filed_at o k A B x l R TA TB b d =
        let w = walk_back_last (stop_at xs n s e) k (omega arith) (nodes_by t A) (nodes_by t B) R (passes B l TB d) (stop_last A s TA b stop_sentinel) in
        rw (last_of_lem R, w)
