-- An event comes, unrun, and comes to the waiting events of the replayed machine too.
use mathlib.Core.Path.{◌≡◌, refl, sym, ap, ◌∙◌, subst}
use mathlib.Core.Logic.{◌≢◌}
use mathlib.Core.Bool.{Bool, true, false, cond}
use mathlib.Core.List.{List, [], ◌∷◌}
use Prim.Native.Nat.{suc, ◌<◌}
use Rattle.line.specs.declared.Event.{Event}
use Rattle.line.specs.Event.{before}
use Rattle.rules.specs.Replay.{insert_sorted, insert_all_sorted, EachRun, Replay, Above, InOrder, Clear, Fresh}
use Rattle.rules.proofs.Machine.Insert.{insert_lt, insert_ge, insert_nil, insert_all}
use Rattle.line.specs.Station.{Plan, InRange, States, update}
use Rattle.line.specs.declared.State.{State}
use Rattle.rules.specs.Held.{Held, unrun, ran, event, place}
use Rattle.rules.specs.Executable.{runs}
use Rattle.line.specs.Order.{Lt, Ge}
use Rattle.line.proofs.Order.{Cmp, less, not_less, cmp, asym}
use Rattle.rules.proofs.Replay.Replay.{sends_of, after_of}
use Rattle.rules.proofs.Replay.Unmark.{clear_norun, above_trans}

pub place_lt : {x : Event} (y : Held) (h : List Held) → Lt (event y) x → place x (y ∷ h) ≡ y ∷ place x h
unfolding place
place_lt y h k = rw k.is

pub place_ge : {x : Event} (y : Held) (h : List Held) → Ge (event y) x → place x (y ∷ h) ≡ unrun x ∷ y ∷ h
unfolding place
place_ge y h k = rw k.is

pub place_all : (Q : Event → State → Type 0) (x : Event) (h : List Held) → EachRun Q h → EachRun Q (place x h)
unfolding place
place_all Q x [] a = tt
place_all Q x (unrun y ∷ h) a = go (before y x) (place_all Q x h a)
  where
    go : (v : Bool) → EachRun Q (place x h) → EachRun Q (cond v (unrun y ∷ place x h) (unrun x ∷ unrun y ∷ h))
    go true i = i
    go false i = a
place_all Q x (ran y b ∷ h) a = go (before y x) (place_all Q x h a.1)
  where
    go : (v : Bool) → EachRun Q (place x h) → EachRun Q (cond v (ran y b ∷ place x h) (unrun x ∷ ran y b ∷ h))
    go true i = (a.0, i)
    go false i = a

place_above : (z x : Event) (h : List Held) → Ge x z → Above z h → Above z (place x h)
unfolding place
place_above z x [] g a = (g, tt)
place_above z x (y ∷ h) g a = go (before (event y) x) (place_above z x h g a.1)
  where
    go : (v : Bool) → Above z (place x h) → Above z (cond v (y ∷ place x h) (unrun x ∷ y ∷ h))
    go true i = (a.0, i)
    go false i = (g, a)

pub place_sorted : (x : Event) (h : List Held) → InOrder h → InOrder (place x h)
unfolding place
place_sorted x [] o = (tt, tt)
place_sorted x (y ∷ h) o = go (cmp (event y) x) (place_sorted x h o.1)
  where
    go : Cmp (event y) x → InOrder (place x h) → InOrder (place x (y ∷ h))
    go (less k) i = rw k.is (place_above (event y) x h (asym k) o.0, i)
    go (not_less k) i = rw k.is ((k, above_trans h k o.0), o)

pub place_runs : (x : Event) (h : List Held) → runs (place x h) ≡ runs h
unfolding place runs
place_runs x [] = refl
place_runs x (unrun y ∷ h) = go (before y x) (place_runs x h)
  where
    go : (v : Bool) → runs (place x h) ≡ runs h → runs (cond v (unrun y ∷ place x h) (unrun x ∷ unrun y ∷ h)) ≡ runs h
    go true i = i
    go false i = refl
place_runs x (ran y b ∷ h) = go (before y x) (place_runs x h)
  where
    go : (v : Bool) → runs (place x h) ≡ runs h → runs (cond v (ran y b ∷ place x h) (unrun x ∷ ran y b ∷ h)) ≡ suc (runs h)
    go true i = ap suc i
    go false i = refl

module _ (p : Plan) (S : InRange p) where
  pub place_replay : (x : Event) (ws : List Event) (st cur : States) (h : List Held) → x.target < p.count → Clear x.target x h → Fresh p x h
      → InOrder h → Replay p ws st cur h
      → Replay p (insert_sorted x ws) st cur (place x h)
  unfolding place
  place_replay x ws st cur [] k c f o r = ([], ap (insert_sorted x) r.0 ∙ insert_nil x, k, tt, (refl, r.1))
  place_replay x ws st cur (unrun y ∷ h) k c f o r = go (cmp y x) (place_replay x r.0 st cur h k c f o.1 r.4)
    where
      go : Cmp y x → Replay p (insert_sorted x r.0) st cur (place x h) → Replay p (insert_sorted x ws) st cur (place x (unrun y ∷ h))
      go (less l) ih =
          rw (place_lt (unrun y) h l)
          (insert_sorted x r.0, ap (insert_sorted x) r.1 ∙ insert_lt r.0 l, r.2, place_all (λ z b. z.target ≢ y.target) x h r.3, ih)
      go (not_less l) ih =
          rw (place_ge (unrun y) h l)
          (ws, ap (insert_sorted x) r.1 ∙ insert_ge r.0 l ∙ ap (λ w. x ∷ w) (sym r.1), k, clear_norun x.target x (unrun y ∷ h) c (l, above_trans h l o.0), r)
  place_replay x ws st cur (ran y a ∷ h) k c f o r = go (cmp y x) (place_replay x (insert_all_sorted (sends_of p a y) r.0) st' cur h k c.1 f.1 o.1 r.4)
    where
      st' : States
      st' = update st y.target (after_of p a y)

      go : Cmp y x → Replay p (insert_sorted x (insert_all_sorted (sends_of p a y) r.0)) st' cur (place x h) → Replay p (insert_sorted x ws) st cur (place x (ran y a ∷ h))
      go (less l) ih =
          rw (place_lt (ran y a) h l)
          (insert_sorted x r.0, ap (insert_sorted x) r.1 ∙ insert_lt r.0 l, r.2, r.3, subst (λ w. Replay p w st' cur (place x h)) (insert_all x (sends_of p a y) r.0 f.0) ih)
      go (not_less l) ih =
          rw (place_ge (ran y a) h l)
          (ws, ap (insert_sorted x) r.1 ∙ insert_ge r.0 l ∙ ap (λ w. x ∷ w) (sym r.1), k, clear_norun x.target x (ran y a ∷ h) c (l, above_trans h l o.0), r)
