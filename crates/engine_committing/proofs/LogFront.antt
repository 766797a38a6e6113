-- Where no unrun event lies before a time, the cells before it are all run and stand in front: a commit logs those and keeps the others.
use mathlib.Core.Path.{◌≡◌, refl, ap}
use mathlib.Core.Bool.{true, false, true≢false}
use mathlib.Core.List.{List, [], ◌∷◌, ◌++◌}
use Prim.Native.Nat.{ℕ, ◌≤◌, ◌<◌}
use native.Mathlib.Nat.{le_trans}
use native.Mathlib.Omega.{arith}
use lib.ListN.{length}
use Rattle.line.specs.declared.Event.{Event}
use Rattle.line.specs.declared.State.{State}
use Rattle.line.proofs.Order.{asym, later_time}
use Rattle.line.specs.Order.{All}
use Rattle.rules.specs.Held.{Held, unrun, ran, event, unrun_before, logged, kept}
use Rattle.rules.proofs.Calls.Commit.{Early, early, late, is_early}
use Rattle.engine_index.specs.Represents.{Cell, cell, AllAfter, Sorted, has_run}
use Rattle.engine_events.specs.Represents.{held_of}
use Rattle.engine_committing.specs.Steps.{events_of, AllRun}

abbrev pub AllEarly : ℕ → List Cell → Type 0
AllEarly time cells = All (λ y. (event y.held).time < time) cells

abbrev pub AllLate : ℕ → List Cell → Type 0
AllLate time cells = All (λ y. time ≤ (event y.held).time) cells

-- the cells before the time, all run, and those at or after it
pub record Parted (time : ℕ) (cells : List Cell) : Type 0 where
  pub front : List Cell
  pub back : List Cell
  pub is : cells ≡ front ++ back
  pub run : AllRun front
  pub early : AllEarly time front
  pub late : AllLate time back

after_late : (time : ℕ) (e : Event) (cells : List Cell) → time ≤ e.time → AllAfter e cells → AllLate time cells
after_late time e [] l a = tt
after_late time e (y ∷ ys) l a = (le_trans l (later_time (asym (record { is = a.0 }))), after_late time e ys l a.1)

all_late : (time : ℕ) (y : Cell) (ys : List Cell) → time ≤ (event y.held).time → AllAfter (event y.held) ys → Parted time (y ∷ ys)
all_late time y ys l a = record { front = []; back = y ∷ ys; is = refl; run = tt; early = tt; late = (l, after_late time (event y.held) ys l a) }

more : (time x : ℕ) (e : Event) (b : State) (ys : List Cell) → e.time < time → Parted time ys → Parted time (cell x (ran e b) ∷ ys)
more time x e b ys l r = record {
  front = cell x (ran e b) ∷ r.front;
  back = r.back;
  is = ap (λ (k : List Cell). cell x (ran e b) ∷ k) r.is;
  run = (refl, r.run);
  early = (l, r.early);
  late = r.late;
}

pub parted : (time : ℕ) (cells : List Cell) → Sorted cells → unrun_before time (held_of cells) ≡ false → Parted time cells
unfolding unrun_before
parted time [] s u = record { front = []; back = []; is = refl; run = tt; early = tt; late = tt }
parted time (y ∷ ys) s u = go y.node y.held s u (λ k. parted time ys s.1 k)
  where
    go : (x : ℕ) (h : Held) → Sorted (cell x h ∷ ys) → unrun_before time (h ∷ held_of ys) ≡ false
        → (unrun_before time (held_of ys) ≡ false → Parted time ys) → Parted time (cell x h ∷ ys)
    go x (unrun e) o v ih = test (is_early e.time time)
      where
        test : Early e.time time → Parted time (cell x (unrun e) ∷ ys)
        test (late l t) = all_late time (cell x (unrun e)) ys l o.0
        test (early l t) = absurd (true≢false (rw t at v))
    go x (ran e b) o v ih = test (is_early e.time time)
      where
        test : Early e.time time → Parted time (cell x (ran e b) ∷ ys)
        test (late l t) = all_late time (cell x (ran e b)) ys l o.0
        test (early l t) = more time x e b ys l (ih v)

-- ---- what a commit logs and keeps

module _ (time : ℕ) where
  logged_late : (back : List Cell) → AllLate time back → logged time (held_of back) ≡ []
  unfolding logged
  logged_late [] l = refl
  logged_late (y ∷ ys) l = go (is_early (event y.held).time time) (logged_late ys l.1)
    where
      go : Early (event y.held).time time → logged time (held_of ys) ≡ [] → logged time (y.held ∷ held_of ys) ≡ []
      go (early k t) ih = absurd (omega (arith, l.0))
      go (late k t) ih = rw t ih

  kept_late : (back : List Cell) → AllLate time back → kept time (held_of back) ≡ held_of back
  unfolding kept
  kept_late [] l = refl
  kept_late (y ∷ ys) l = go (is_early (event y.held).time time) (kept_late ys l.1)
    where
      go : Early (event y.held).time time → kept time (held_of ys) ≡ held_of ys → kept time (y.held ∷ held_of ys) ≡ y.held ∷ held_of ys
      go (early k t) ih = absurd (omega (arith, l.0))
      go (late k t) ih = rw (t, ih)

  pub logged_front : (front back : List Cell) → AllEarly time front → AllLate time back → logged time (held_of (front ++ back)) ≡ events_of front
  unfolding logged
  logged_front [] back e l = logged_late back l
  logged_front (y ∷ ys) back e l = go (is_early (event y.held).time time) (logged_front ys back e.1 l)
    where
      go : Early (event y.held).time time → logged time (held_of (ys ++ back)) ≡ events_of ys
          → logged time (y.held ∷ held_of (ys ++ back)) ≡ event y.held ∷ events_of ys
      go (late k t) ih = absurd (omega (arith, e.0))
      go (early k t) ih = rw (t, ih)

  pub kept_back : (front back : List Cell) → AllEarly time front → AllLate time back → kept time (held_of (front ++ back)) ≡ held_of back
  unfolding kept
  kept_back [] back e l = kept_late back l
  kept_back (y ∷ ys) back e l = go (is_early (event y.held).time time) (kept_back ys back e.1 l)
    where
      go : Early (event y.held).time time → kept time (held_of (ys ++ back)) ≡ held_of back → kept time (y.held ∷ held_of (ys ++ back)) ≡ held_of back
      go (late k t) ih = absurd (omega (arith, e.0))
      go (early k t) ih = rw (t, ih)

-- ---- the front cells

pub run_at : (A : List Cell) (y : Cell) (B : List Cell) → AllRun (A ++ y ∷ B) → has_run y.held ≡ true
run_at [] y B r = r.0
run_at (z ∷ A) y B r = run_at A y B r.1

pub early_at : (time : ℕ) (A : List Cell) (y : Cell) (B : List Cell) → AllEarly time (A ++ y ∷ B) → (event y.held).time < time
early_at time [] y B r = r.0
early_at time (z ∷ A) y B r = early_at time A y B r.1

pub length_events : (cells : List Cell) → length (events_of cells) ≡ length cells
length_events [] = refl
length_events (y ∷ ys) = omega (arith, length_events ys)
