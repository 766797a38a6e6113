-- An unrun event goes, and goes from the waiting events of the replayed machine too.
use mathlib.Core.Path.{◌≡◌, sym, ap, ◌∙◌, subst}
use mathlib.Core.Logic.{◌≢◌}
use mathlib.Core.Bool.{Bool, true, false, cond}
use mathlib.Core.List.{List, [], ◌∷◌}
use Prim.Native.Nat.{ℕ, suc, ◌≤◌}
use native.Mathlib.Nat.{le_refl, le-suc}
use native.Mathlib.Omega.{arith}
use Rattle.line.specs.declared.Event.{Event}
use Rattle.rules.specs.Replay.{insert_sorted, insert_all_sorted, EachRun, Replay, Above, InOrder, Clear, Fresh}
use Rattle.rules.proofs.Machine.Insert.{insert_all, Where, front, back, insert_where}
use Rattle.line.specs.Station.{Plan, InRange, States, update}
use Rattle.line.specs.declared.State.{State}
use Rattle.rules.specs.Held.{Held, unrun, ran, event, same, delete}
use Rattle.rules.specs.Executable.{runs}
use Rattle.line.specs.Order.{Lt, Ge}
use Rattle.line.proofs.Order.{irr, clash}
use Rattle.rules.proofs.Replay.Replay.{sends_of, after_of}

pub same_self : (x : Event) → same x x ≡ true
unfolding same
same_self x = rw (irr x).is

pub same_lt : {x y : Event} → Lt y x → same y x ≡ false
unfolding same
same_lt h = rw h.is

delete_this : {x y : Event} (h : List Held) → y ≡ x → delete x (unrun y ∷ h) ≡ h
unfolding delete
delete_this {x} {y} h e = rw (e, same_self x)

delete_past : {x : Event} (y : Held) (h : List Held) → Lt (event y) x → delete x (y ∷ h) ≡ y ∷ delete x h
unfolding delete
delete_past y h k = rw (same_lt k)

pub delete_all : (Q : Event → State → Type 0) (x : Event) (h : List Held) → EachRun Q h → EachRun Q (delete x h)
unfolding delete
delete_all Q x [] a = tt
delete_all Q x (unrun y ∷ h) a = go (same y x) (delete_all Q x h a)
  where
    go : (v : Bool) → EachRun Q (delete x h) → EachRun Q (cond v h (unrun y ∷ delete x h))
    go true i = a
    go false i = i
delete_all Q x (ran y b ∷ h) a = go (same y x) (delete_all Q x h a.1)
  where
    go : (v : Bool) → EachRun Q (delete x h) → EachRun Q (cond v h (ran y b ∷ delete x h))
    go true i = a.1
    go false i = (a.0, i)

delete_above : (z x : Event) (h : List Held) → Above z h → Above z (delete x h)
unfolding delete
delete_above z x [] a = tt
delete_above z x (y ∷ h) a = go (same (event y) x) (delete_above z x h a.1)
  where
    go : (v : Bool) → Above z (delete x h) → Above z (cond v h (y ∷ delete x h))
    go true i = a.1
    go false i = (a.0, i)

pub delete_sorted : (x : Event) (h : List Held) → InOrder h → InOrder (delete x h)
unfolding delete
delete_sorted x [] o = tt
delete_sorted x (y ∷ h) o = go (same (event y) x) (delete_sorted x h o.1)
  where
    go : (v : Bool) → InOrder (delete x h) → InOrder (cond v h (y ∷ delete x h))
    go true i = o.1
    go false i = (delete_above (event y) x h o.0, i)

pub delete_runs : (x : Event) (h : List Held) → runs (delete x h) ≤ runs h
unfolding delete runs
delete_runs x [] = le_refl _
delete_runs x (unrun y ∷ h) = go (same y x) (delete_runs x h)
  where
    go : (v : Bool) → runs (delete x h) ≤ runs h → runs (cond v h (unrun y ∷ delete x h)) ≤ runs h
    go true i = le_refl _
    go false i = i
delete_runs x (ran y b ∷ h) = go (same y x) (delete_runs x h)
  where
    go : (v : Bool) → runs (delete x h) ≤ runs h → runs (cond v h (ran y b ∷ delete x h)) ≤ suc (runs h)
    go true i = le-suc _
    go false i = omega arith

module _ (p : Plan) (S : InRange p) where
  pub delete_replay : (x : Event) (ws : List Event) (st cur : States) (h : List Held) → Clear x.target x h → Fresh p x h
      → Replay p (insert_sorted x ws) st cur h → Replay p ws st cur (delete x h)
  delete_replay x ws st cur [] c f r = absurd (go (insert_where x ws))
    where
      go : Where x ws → ⊥
      go (front k) = let z : ◌≡◌ {A = ℕ} 0 1 = cc r.0 in omega arith
      go (back w us k l q) = let z : ◌≡◌ {A = ℕ} 0 1 = cc r.0 in omega arith
  delete_replay x ws st cur (unrun y ∷ h) c f r = go (insert_where x ws) (λ us k. delete_replay x us st cur h c f k)
    where
      go : Where x ws → ((us : List Event) → Replay p (insert_sorted x us) st cur h → Replay p us st cur (delete x h)) → Replay p ws st cur (delete x (unrun y ∷ h))
      go (front k) ih =
          let e : y ≡ x = cc r.1 in
          let t : r.0 ≡ ws = cc r.1 in
          rw (delete_this h e) (subst (λ l. Replay p l st cur h) t r.4)
      go (back w us k l q) ih =
          let e : w ≡ y = cc r.1 in
          let t : r.0 ≡ insert_sorted x us = cc r.1 in
          rw (delete_past (unrun y) h (subst (λ v. Lt v x) e l))
          (us, k ∙ ap (λ v. v ∷ us) e, r.2, delete_all (λ z b. z.target ≢ y.target) x h r.3, ih us (subst (λ l. Replay p l st cur h) t r.4))
  delete_replay x ws st cur (ran y a ∷ h) c f r =
      go (insert_where x ws) (λ us k. delete_replay x us (update st y.target (after_of p a y)) cur h c.1 f.1 k)
    where
      st' : States
      st' = update st y.target (after_of p a y)

      go : Where x ws → ((us : List Event) → Replay p (insert_sorted x us) st' cur h → Replay p us st' cur (delete x h)) → Replay p ws st cur (delete x (ran y a ∷ h))
      go (front k) ih =
          let e : y ≡ x = cc r.1 in
          absurd (clash (c.0 (ap (λ v. v.target) e)) (subst (λ v. Ge v x) (sym e) (irr x)))
      go (back w us k l q) ih =
          let e : w ≡ y = cc r.1 in
          let t : r.0 ≡ insert_sorted x us = cc r.1 in
          rw (delete_past (ran y a) h (subst (λ v. Lt v x) e l)) (
            us,
            k ∙ ap (λ v. v ∷ us) e,
            r.2,
            r.3,
            ih (insert_all_sorted (sends_of p a y) us) (subst (λ l. Replay p l st' cur h) (ap (insert_all_sorted (sends_of p a y)) t ∙ sym (insert_all x (sends_of p a y) us f.0)) r.4),
          )
