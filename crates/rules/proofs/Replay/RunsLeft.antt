-- The run events that are left are some of those that were run, in their order.
use mathlib.Core.Path.{◌≡◌, refl, ap}
use mathlib.Core.Bool.{Bool, true, false, cond, not, ◌&&◌, ◌||◌}
use mathlib.Core.List.{List, [], ◌∷◌}
use Prim.Native.Nat.{ℕ, suc, ◌+◌}
use native.Mathlib.Omega.{arith}
use lib.ListN.{length}
use Rattle.line.specs.declared.Event.{Event}
use Rattle.line.specs.Event.{before}
use Rattle.line.specs.declared.State.{State}
use Rattle.rules.specs.Held.{Held, unrun, ran, same, is_run, undone, unmark, delete, place, mark}
use Rattle.rules.specs.Executable.{runs}
use Rattle.line.proofs.Order.{irr}
use Rattle.line.specs.Order.{Differ, fst, snd, All}
use Rattle.line.proofs.All.{all_map, Distinct}
use Rattle.rules.proofs.Replay.Unmark.{Latest}
use Rattle.rules.proofs.Replay.Mark.{First, mark_this, mark_other, mark_ran}
use Rattle.rules.proofs.Replay.Unmark as U
use Rattle.rules.proofs.Replay.Mark as C

-- the run events, in order
abbrev pub ran_ones : List Held → List Event
ran_ones [] = []
ran_ones (unrun x ∷ h) = ran_ones h
ran_ones (ran x b ∷ h) = x ∷ ran_ones h

-- the first list is the second with some left out
pub data Sub : List Event → List Event → Type 0 where
  empty : Sub [] []
  skip : {x : Event} {a b : List Event} → Sub a b → Sub a (x ∷ b)
  keep : {x : Event} {a b : List Event} → Sub a b → Sub (x ∷ a) (x ∷ b)

pub sub_refl : (a : List Event) → Sub a a
sub_refl [] = empty
sub_refl (x ∷ a) = keep (sub_refl a)

pub sub_trans : {a b c : List Event} → Sub a b → Sub b c → Sub a c
sub_trans s empty = s
sub_trans s (skip t) = skip (sub_trans s t)
sub_trans (skip s) (keep t) = skip (sub_trans s t)
sub_trans (keep s) (keep t) = keep (sub_trans s t)

pub found_sub : {s : ℕ} {x e : Event} {b : State} {h h' : List Held} → Latest s x e b h h' → Sub (ran_ones h') (ran_ones h)
found_sub (U.here {h = h} q g c) = skip (sub_refl (ran_ones h))
found_sub (U.past_unrun f) = found_sub f
found_sub (U.past_ran f) = keep (found_sub f)

pub unmark_sub : (y : Event) (h : List Held) → Sub (ran_ones (unmark y h)) (ran_ones h)
unfolding unmark
unmark_sub y [] = empty
unmark_sub y (unrun w ∷ h) = go (same w y) (unmark_sub y h)
  where
    go : (v : Bool) → Sub (ran_ones (unmark y h)) (ran_ones h) → Sub (ran_ones (cond v (unrun w ∷ h) (unrun w ∷ unmark y h))) (ran_ones h)
    go true i = sub_refl (ran_ones h)
    go false i = i
unmark_sub y (ran w b ∷ h) = go (same w y) (unmark_sub y h)
  where
    go : (v : Bool) → Sub (ran_ones (unmark y h)) (ran_ones h) → Sub (ran_ones (cond v (unrun w ∷ h) (ran w b ∷ unmark y h))) (w ∷ ran_ones h)
    go true i = skip (sub_refl (ran_ones h))
    go false i = keep i

pub delete_sub : (y : Event) (h : List Held) → Sub (ran_ones (delete y h)) (ran_ones h)
unfolding delete
delete_sub y [] = empty
delete_sub y (unrun w ∷ h) = go (same w y) (delete_sub y h)
  where
    go : (v : Bool) → Sub (ran_ones (delete y h)) (ran_ones h) → Sub (ran_ones (cond v h (unrun w ∷ delete y h))) (ran_ones h)
    go true i = sub_refl (ran_ones h)
    go false i = i
delete_sub y (ran w b ∷ h) = go (same w y) (delete_sub y h)
  where
    go : (v : Bool) → Sub (ran_ones (delete y h)) (ran_ones h) → Sub (ran_ones (cond v h (ran w b ∷ delete y h))) (w ∷ ran_ones h)
    go true i = skip (sub_refl (ran_ones h))
    go false i = keep i

pub place_sub : (y : Event) (h : List Held) → ran_ones (place y h) ≡ ran_ones h
unfolding place
place_sub y [] = refl
place_sub y (unrun w ∷ h) = go (before w y) (place_sub y h)
  where
    go : (v : Bool) → ran_ones (place y h) ≡ ran_ones h → ran_ones (cond v (unrun w ∷ place y h) (unrun y ∷ unrun w ∷ h)) ≡ ran_ones h
    go true i = i
    go false i = refl
place_sub y (ran w b ∷ h) = go (before w y) (place_sub y h)
  where
    go : (v : Bool) → ran_ones (place y h) ≡ ran_ones h → ran_ones (cond v (ran w b ∷ place y h) (unrun y ∷ ran w b ∷ h)) ≡ w ∷ ran_ones h
    go true i = ap (λ l. w ∷ l) i
    go false i = refl

-- ---- counting

memb : Event → List Event → Bool
memb x [] = false
memb x (y ∷ l) = same x y || memb x l

missing : List Event → List Event → ℕ
missing [] b = 0
missing (x ∷ a) b = cond (memb x b) (missing a b) (suc (missing a b))

is_run_is : (x : Event) (h : List Held) → is_run x h ≡ memb x (ran_ones h)
unfolding is_run memb
is_run_is x [] = refl
is_run_is x (unrun y ∷ h) = is_run_is x h
is_run_is x (ran y b ∷ h) = ap (λ v. same x y || v) (is_run_is x h)

undone_is : (h k : List Held) → undone h k ≡ missing (ran_ones h) (ran_ones k)
unfolding undone missing
undone_is [] k = refl
undone_is (unrun x ∷ h) k = undone_is h k
undone_is (ran x b ∷ h) k = rw (is_run_is x k, undone_is h k)

pub runs_is : (h : List Held) → runs h ≡ length (ran_ones h)
unfolding runs
runs_is [] = refl
runs_is (unrun x ∷ h) = runs_is h
runs_is (ran x b ∷ h) = ap suc (runs_is h)

same_self : (x : Event) → same x x ≡ true
unfolding same
same_self x = rw (irr x).is

pub differ_same : {x y : Event} → Differ x y → same x y ≡ false
unfolding same
differ_same (fst l) = rw l.is
differ_same {x} {y} (snd l) = go (before x y)
  where
    go : (v : Bool) → (not v && not (before y x)) ≡ false
    go true = refl
    go false = rw l.is

sub_all : (P : Event → Type 0) {a b : List Event} → Sub a b → All P b → All P a
sub_all P empty h = tt
sub_all P (skip s) h = sub_all P s h.1
sub_all P (keep s) h = (h.0, sub_all P s h.1)

memb_none : (x : Event) (a : List Event) → All (Differ x) a → memb x a ≡ false
unfolding memb
memb_none x [] d = refl
memb_none x (y ∷ a) d = rw (differ_same d.0) (memb_none x a d.1)

-- an event that differs from all of a may be among b or not
missing_other : (x : Event) (a b : List Event) → All (λ y. Differ y x) a → missing a (x ∷ b) ≡ missing a b
unfolding missing memb
missing_other x [] b d = refl
missing_other x (y ∷ a) b d = rw (differ_same d.0, missing_other x a b d.1)

missing_rest : {a b : List Event} → Sub b a → Distinct a → missing a b + length b ≡ length a
unfolding missing memb
missing_rest empty d = refl
missing_rest (skip {x = x} {a = b} {b = a} s) d = rw (memb_none x b (sub_all (Differ x) s d.0)) (omega (arith, missing_rest s d.1))
missing_rest (keep {x = x} {a = b} {b = a} s) d =
    rw (same_self x, missing_other x a b (all_map (λ y k. flip k) a d.0)) (omega (arith, missing_rest s d.1))
  where
    flip : {u v : Event} → Differ u v → Differ v u
    flip (fst k) = snd k
    flip (snd k) = fst k

-- the events undone are those that the numbers of run events say
pub undone_rest : (h k : List Held) → Sub (ran_ones k) (ran_ones h) → Distinct (ran_ones h) → undone h k + runs k ≡ runs h
undone_rest h k s d = omega (arith, undone_is h k, runs_is k, runs_is h, missing_rest s d)

-- one more run event x, that was not run, counts for nothing
memb_mark : (y : Event) {s : ℕ} {x : Event} {h : List Held} (b : State) → Differ y x → First s x h → memb y (ran_ones (mark s b h)) ≡ memb y (ran_ones h)
unfolding memb
memb_mark y {s} {x} b d (C.here {h = h} e) = rw (mark_this s x b h e, differ_same d)
memb_mark y {s} {x} b d (C.past_unrun {y = w} {h = h} e f) = rw (mark_other s w b h e) (memb_mark y b d f)
memb_mark y {s} {x} b d (C.past_ran {y = w} {a = c} {h = h} f) = rw (mark_ran s w c b h) (ap (λ v. same y w || v) (memb_mark y b d f))

missing_mark : (a : List Event) {s : ℕ} {x : Event} {h : List Held} (b : State) → All (λ y. Differ y x) a → First s x h
    → missing a (ran_ones (mark s b h)) ≡ missing a (ran_ones h)
unfolding missing
missing_mark [] b d f = refl
missing_mark (y ∷ a) b d f = rw (memb_mark y b d.0 f, missing_mark a b d.1 f)

pub runs_mark : {s : ℕ} {x : Event} {h : List Held} (b : State) → First s x h → runs (mark s b h) ≡ suc (runs h)
unfolding runs
runs_mark {s} {x} b (C.here {h = h} e) = rw (mark_this s x b h e)
runs_mark {s} {x} b (C.past_unrun {y = w} {h = h} e f) = rw (mark_other s w b h e) (runs_mark b f)
runs_mark {s} {x} b (C.past_ran {y = w} {a = c} {h = h} f) = rw (mark_ran s w c b h) (ap suc (runs_mark b f))

pub undone_mark : (h k : List Held) {s : ℕ} {x : Event} (b : State) → First s x k → All (λ y. Differ y x) (ran_ones h) → Sub (ran_ones k) (ran_ones h)
    → Distinct (ran_ones h) → undone h (mark s b k) + runs (mark s b k) ≡ suc (runs h)
undone_mark h k {s} {x} b f d s' u =
    omega (arith, undone_is h (mark s b k), missing_mark (ran_ones h) b d f, undone_is h k, runs_mark b f, undone_rest h k s' u)
