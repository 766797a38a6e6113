-- Whether an unrun event lies before a time is what the lowest station's time says.
use mathlib.Core.Path.{◌≡◌, refl, sym, subst}
use mathlib.Core.Bool.{Bool, true, false, true≢false}
use mathlib.Core.List.{List, [], ◌∷◌}
use Prim.Native.Nat.{ℕ}
use native.Mathlib.Omega.{arith}
use lib.Dec.{ltb}
use Rattle.refusal.specs.declared.Refusal.{Refusal}
use Rattle.calendar_answers.specs.declared.Least.{Least}
use Rattle.std.specs.Prelude.{Ok, Err}
use Rattle.line.specs.declared.Event.{Event}
use Rattle.line.specs.Station.{Plan}
use Rattle.line.proofs.Order.{asym}
use Rattle.rules.specs.Held.{Held, event, Queue, unrun, ran, Lowest, none_unrun, unrun_before}
use Rattle.rules.specs.Engine.{Setting}
use Rattle.rules.specs.Replay.{Above, InOrder}
use Rattle.rules.proofs.Calls.Commit.{Early, early, late, is_early}
use Rattle.rules.proofs.Calls.Tests.{none_early, some_early}
use Rattle.engine_index.specs.Represents.{Cell, AllAfter, Sorted}
use Rattle.engine_events.specs.Represents.{held_of, Holds}
use Rattle.engine_events.specs.Promises.{Finds}
use Rattle.engine_committing.specs.Steps as S

none_before : (time : ℕ) (h : List Held) → none_unrun h ≡ true → unrun_before time h ≡ false
unfolding none_unrun unrun_before
none_before time [] e = refl
none_before time (unrun x ∷ h) e = absurd (true≢false (sym e))
none_before time (ran x b ∷ h) e = none_before time h e

lowest_before : (time : ℕ) (h : List Held) (s : ℕ) → InOrder h → (l : Lowest h s) → ltb l.time time ≡ unrun_before time h
lowest_before time h s o l = go (unrun_before time h) refl (is_early l.time time)
  where
    go : (v : Bool) → unrun_before time h ≡ v → Early l.time time → ltb l.time time ≡ v
    go true e (early k t) = t
    go true e (late k t) =
        let r = some_early time h o e in
        absurd (omega (arith, l.least r.0 r.1 r.2, r.3))
    go false e (early k t) = absurd (omega (arith, none_early time h s l.time e l.is))
    go false e (late k t) = t

-- ---- the held events are in order

all_above : (e : Event) (cells : List Cell) → AllAfter e cells → Above e (held_of cells)
all_above e [] a = tt
all_above e (y ∷ ys) a = (asym (record { is = a.0 }), all_above e ys a.1)

cells_sorted : (cells : List Cell) → Sorted cells → InOrder (held_of cells)
cells_sorted [] o = tt
cells_sorted (y ∷ ys) o = (all_above (event y.held) ys o.0, cells_sorted ys o.1)

held_sorted : {p : Plan} {setting : Setting} {n c now : ℕ} {xs : List ℕ} {q : Queue} {cells : List Cell} → Holds p setting n c now xs q cells
    → InOrder q.held
held_sorted {cells = cells} H = subst InOrder H.stores.held (cells_sorted cells H.stores.stands.sorted)

-- ---- what the calendar says

module _ {n c : ℕ} {xs : List ℕ} (time : ℕ) where
  pub none_earlier : {e : Refusal} → Finds n c xs (Err e) → S.Early n c xs time false
  none_earlier F p setting now q cells H = sym (none_before time q.held (F.none p setting now q cells H))

  pub some_earlier : {a : Least} → Finds n c xs (Ok a) → S.Early n c xs time (ltb a.time time)
  some_earlier {a} F p setting now q cells H =
      let f = F.some p setting now q cells H in
      let l = f.2 in
      let e : l.time ≡ a.time = f.3 in
      rw e at (lowest_before time q.held a.station (held_sorted H) l)
