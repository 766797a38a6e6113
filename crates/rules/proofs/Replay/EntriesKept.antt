-- What the elementary changes leave alone: the entries before the event that they start from.
use mathlib.Core.Path.{◌≡◌, subst}
use mathlib.Core.Logic.{◌⊎◌, inl, inr}
use mathlib.Core.Bool.{Bool, true, false, cond}
use mathlib.Core.List.Memᴰ
use mathlib.Core.List.{List, [], ◌∷◌}
use Prim.Native.Nat.{ℕ}
use native.Mathlib.Omega.{arith}
use Rattle.line.specs.declared.Event.{Event}
use Rattle.line.specs.Event.{before}
use Rattle.line.specs.declared.State.{State}
use Rattle.rules.specs.Held.{Held, unrun, ran, event, same, delete, place, mark, In}
use Rattle.line.specs.Order.{Lt}
use Rattle.line.proofs.Order.{clash}
use Rattle.rules.proofs.Replay.Unmark.{Latest}
use Rattle.rules.proofs.Replay.Mark.{First, mark_this, mark_other, mark_ran}
use Rattle.rules.proofs.Replay.Delete.{same_lt}
use Rattle.rules.proofs.Replay.Unmark as U
use Rattle.rules.proofs.Replay.Mark as C

-- ---- entries that stay

pub found_stays : {s : ℕ} {x e : Event} {b : State} {h h' : List Held} (z : Held) → Latest s x e b h h' → Lt (event z) x → In z h → In z h'
found_stays {x = x} z (U.here q g c) l (Memᴰ.head p) = absurd (clash (subst (λ y. Lt (event y) x) p l) g)
found_stays z (U.here q g c) l (Memᴰ.tail m) = Memᴰ.tail m
found_stays z (U.past_unrun f) l (Memᴰ.head p) = Memᴰ.head p
found_stays z (U.past_unrun f) l (Memᴰ.tail m) = Memᴰ.tail (found_stays z f l m)
found_stays z (U.past_ran f) l (Memᴰ.head p) = Memᴰ.head p
found_stays z (U.past_ran f) l (Memᴰ.tail m) = Memᴰ.tail (found_stays z f l m)

pub delete_stays : (z : Held) (y : Event) (h : List Held) → Lt (event z) y → In z h → In z (delete y h)
unfolding delete
delete_stays z y [] l m = elim m [ ]
delete_stays z y (w ∷ h) l (Memᴰ.head p) = rw (same_lt (subst (λ v. Lt (event v) y) p l)) (Memᴰ.head p)
delete_stays z y (w ∷ h) l (Memᴰ.tail m) = go (same (event w) y) (delete_stays z y h l m)
  where
    go : (v : Bool) → In z (delete y h) → In z (cond v h (w ∷ delete y h))
    go true i = m
    go false i = Memᴰ.tail i

pub place_stays : (z : Held) (y : Event) (h : List Held) → In z h → In z (place y h)
unfolding place
place_stays z y [] m = elim m [ ]
place_stays z y (w ∷ h) (Memᴰ.head p) = go (before (event w) y)
  where
    go : (v : Bool) → In z (cond v (w ∷ place y h) (unrun y ∷ w ∷ h))
    go true = Memᴰ.head p
    go false = Memᴰ.tail (Memᴰ.head p)
place_stays z y (w ∷ h) (Memᴰ.tail m) = go (before (event w) y) (place_stays z y h m)
  where
    go : (v : Bool) → In z (place y h) → In z (cond v (w ∷ place y h) (unrun y ∷ w ∷ h))
    go true i = Memᴰ.tail i
    go false i = Memᴰ.tail (Memᴰ.tail m)

-- a run event stays run
pub mark_stays : (z : Event) (a : State) {s : ℕ} {x : Event} {h : List Held} (b : State) → First s x h → In (ran z a) h → In (ran z a) (mark s b h)
mark_stays z a {s} {x} b (C.here {h = h} e) (Memᴰ.head p) = let k : ◌≡◌ {A = ℕ} 0 1 = cc in absurd (omega arith)
mark_stays z a {s} {x} b (C.here {h = h} e) (Memᴰ.tail m) = rw (mark_this s x b h e) (Memᴰ.tail m)
mark_stays z a {s} {x} b (C.past_unrun {y = y} {h = h} e f) (Memᴰ.head p) = let k : ◌≡◌ {A = ℕ} 0 1 = cc in absurd (omega arith)
mark_stays z a {s} {x} b (C.past_unrun {y = y} {h = h} e f) (Memᴰ.tail m) = rw (mark_other s y b h e) (Memᴰ.tail (mark_stays z a b f m))
mark_stays z a {s} {x} b (C.past_ran {y = y} {a = c} {h = h} f) (Memᴰ.head p) = rw (mark_ran s y c b h) (Memᴰ.head p)
mark_stays z a {s} {x} b (C.past_ran {y = y} {a = c} {h = h} f) (Memᴰ.tail m) = rw (mark_ran s y c b h) (Memᴰ.tail (mark_stays z a b f m))

-- ---- entries that were there

pub delete_in : (z : Held) (y : Event) (h : List Held) → In z (delete y h) → In z h
unfolding delete
delete_in z y [] m = m
delete_in z y (w ∷ h) m = go (same (event w) y) m (λ k. delete_in z y h k)
  where
    go : (v : Bool) → In z (cond v h (w ∷ delete y h)) → (In z (delete y h) → In z h) → In z (w ∷ h)
    go true k ih = Memᴰ.tail k
    go false (Memᴰ.head p) ih = Memᴰ.head p
    go false (Memᴰ.tail k) ih = Memᴰ.tail (ih k)

pub place_in : (z : Held) (y : Event) (h : List Held) → In z (place y h) → In z h ⊎ (z ≡ unrun y)
unfolding place
place_in z y [] (Memᴰ.head p) = inr p
place_in z y [] (Memᴰ.tail m) = inl m
place_in z y (w ∷ h) m = go (before (event w) y) m (λ k. place_in z y h k)
  where
    up : In z h ⊎ (z ≡ unrun y) → In z (w ∷ h) ⊎ (z ≡ unrun y)
    up (inl k) = inl (Memᴰ.tail k)
    up (inr k) = inr k

    go : (v : Bool) → In z (cond v (w ∷ place y h) (unrun y ∷ w ∷ h)) → (In z (place y h) → In z h ⊎ (z ≡ unrun y)) → In z (w ∷ h) ⊎ (z ≡ unrun y)
    go true (Memᴰ.head p) ih = inl (Memᴰ.head p)
    go true (Memᴰ.tail k) ih = up (ih k)
    go false (Memᴰ.head p) ih = inr p
    go false (Memᴰ.tail k) ih = inl k
