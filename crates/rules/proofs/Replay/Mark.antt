-- The least unrun event of a station becomes run, and its sends are no longer waiting events by themselves.
use mathlib.Core.Path.{◌≡◌, refl, sym, ap, ◌∙◌, subst}
use mathlib.Core.Logic.{◌≢◌}
use mathlib.Core.Bool.{cond}
use mathlib.Core.List.{List, ◌∷◌}
use Prim.Native.Nat.{ℕ, ◌≤◌, ◌<◌}
use lib.Dec.{eqb}
use Rattle.line.specs.declared.Event.{Event}
use Rattle.rules.specs.Replay.{insert_all_sorted, EachRun, NoRun, Replay, Above, InOrder}
use Rattle.rules.proofs.Machine.Insert.{Disjoint, all_all, Uncons, uncons}
use Rattle.line.proofs.Order.{Which, this, other, which, ge_lt}
use Rattle.rules.proofs.Update.{update_same, update_at, update_other}
use Rattle.line.specs.Station.{Plan, InRange, States, update}
use Rattle.line.specs.declared.State.{State}
use Rattle.rules.specs.Held.{Held, unrun, ran, mark}
use Rattle.line.specs.Order.{Ge}
use Rattle.line.proofs.All.{all_map}
use Rattle.rules.proofs.Replay.Replay.{sends_of, after_of, sends_later, sent_grows, disjoint, elsewhere, stays}

-- x is the least unrun event of s
pub data First (s : ℕ) (x : Event) : List Held → Type 0 where
  here : {h : List Held} → x.target ≡ s → First s x (unrun x ∷ h)
  past_unrun : {y : Event} {h : List Held} → y.target ≢ s → First s x h → First s x (unrun y ∷ h)
  past_ran : {y : Event} {a : State} {h : List Held} → First s x h → First s x (ran y a ∷ h)

pub mark_this : (s : ℕ) (x : Event) (b : State) (h : List Held) → x.target ≡ s → mark s b (unrun x ∷ h) ≡ ran x b ∷ h
unfolding mark
mark_this s x b h e = go (which x.target s)
  where
    go : Which x.target s → cond (eqb x.target s) (ran x b ∷ h) (unrun x ∷ mark s b h) ≡ ran x b ∷ h
    go (this _ t) = rw t
    go (other n _) = absurd (n e)

pub mark_other : (s : ℕ) (y : Event) (b : State) (h : List Held) → y.target ≢ s → mark s b (unrun y ∷ h) ≡ unrun y ∷ mark s b h
unfolding mark
mark_other s y b h e = go (which y.target s)
  where
    go : Which y.target s → cond (eqb y.target s) (ran y b ∷ h) (unrun y ∷ mark s b h) ≡ unrun y ∷ mark s b h
    go (this n _) = absurd (e n)
    go (other _ t) = rw t

pub mark_ran : (s : ℕ) (y : Event) (a b : State) (h : List Held) → mark s b (ran y a ∷ h) ≡ ran y a ∷ mark s b h
unfolding mark
mark_ran s y a b h = refl

pub mark_all : (Q : Event → State → Type 0) {s : ℕ} {x : Event} {h : List Held} (b : State) → Q x b → First s x h → EachRun Q h → EachRun Q (mark s b h)
mark_all Q {s} {x} b q (here {h = h} e) a = rw (mark_this s x b h e) (q, a)
mark_all Q {s} {x} b q (past_unrun {y = y} {h = h} e f) a = rw (mark_other s y b h e) (mark_all Q b q f a)
mark_all Q {s} {x} b q (past_ran {y = y} {a = c} {h = h} f) a = rw (mark_ran s y c b h) (a.0, mark_all Q b q f a.1)

mark_above : (z : Event) {s : ℕ} {x : Event} {h : List Held} (b : State) → First s x h → Above z h → Above z (mark s b h)
mark_above z {s} {x} b (here {h = h} e) a = rw (mark_this s x b h e) a
mark_above z {s} {x} b (past_unrun {y = y} {h = h} e f) a = rw (mark_other s y b h e) (a.0, mark_above z b f a.1)
mark_above z {s} {x} b (past_ran {y = y} {a = c} {h = h} f) a = rw (mark_ran s y c b h) (a.0, mark_above z b f a.1)

pub mark_sorted : {s : ℕ} {x : Event} {h : List Held} (b : State) → First s x h → InOrder h → InOrder (mark s b h)
mark_sorted {s} {x} b (here {h = h} e) o = rw (mark_this s x b h e) o
mark_sorted {s} {x} b (past_unrun {y = y} {h = h} e f) o = rw (mark_other s y b h e) (mark_above y b f o.0, mark_sorted b f o.1)
mark_sorted {s} {x} b (past_ran {y = y} {a = c} {h = h} f) o = rw (mark_ran s y c b h) (mark_above y b f o.0, mark_sorted b f o.1)

pub first_held : (z : Event) {s : ℕ} {x : Event} {h : List Held} → First s x h → Above z h → Ge x z
first_held z (here e) a = a.0
first_held z (past_unrun e f) a = first_held z f a.1
first_held z (past_ran f) a = first_held z f a.1

pub first_target : {s : ℕ} {x : Event} {h : List Held} → First s x h → x.target ≡ s
first_target (here e) = e
first_target (past_unrun e f) = first_target f
first_target (past_ran f) = first_target f

module _ (p : Plan) (S : InRange p) where
  pub first_small : (s : ℕ) (x : Event) {h : List Held} (ws : List Event) (st cur : States) → First s x h → Replay p ws st cur h → x.target < p.count
  first_small s x ws st cur (here e) r = r.2
  first_small s x ws st cur (past_unrun e f) r = first_small s x r.0 st cur f r.4
  first_small s x ws st cur (past_ran {y = y} {a = a} f) r =
      first_small s x (insert_all_sorted (sends_of p a y) r.0) (update st y.target (after_of p a y)) cur f r.4

  pub mark_replay : (s : ℕ) (x : Event) (b : State) {h : List Held} (ws vs : List Event) (st cur : States) → First s x h → InOrder h → b ≡ cur s
      → insert_all_sorted (sends_of p b x) ws ≡ vs → Replay p vs st cur h
      → Replay p ws st (update cur s (after_of p b x)) (mark s b h)
  mark_replay s x b ws vs st cur (here {h = h} e) o k w r = rw (mark_this s x b h e) (u.rest, u.whole, r.2, b_is, after)
    where
      u : Uncons ws x (sends_of p b x) r.0
      u = uncons (sends_of p b x) x ws r.0 (w ∙ r.1) (sends_later p S b x r.2)

      b_is : b ≡ st x.target
      b_is = k ∙ ap cur (sym e) ∙ stays p S x.target r.0 st cur h r.3 r.4

      v : State
      v = after_of p b x

      after : Replay p (insert_all_sorted (sends_of p b x) u.rest) (update st x.target v) (update cur s v) h
      after =
          elsewhere p S s (insert_all_sorted (sends_of p b x) u.rest) st (update st x.target v) cur (update cur s v) h (subst (λ t. NoRun t h) e r.3)
          (λ t q. sym (update_other st v (λ j. q (j ∙ e)))) (λ t q. sym (update_other cur v q)) (update_same cur s v ∙ sym (update_at st v (sym e)))
          (subst (λ l. Replay p l st cur h) u.tail r.4)
  mark_replay s x b ws vs st cur (past_unrun {y = y} {h = h} e f) o k w r =
      rw (mark_other s y b h e) (
        u.rest,
        u.whole,
        r.2,
        mark_all (λ z c. z.target ≢ y.target) b (λ q. e (sym q ∙ first_target f)) f r.3,
        mark_replay s x b u.rest r.0 st cur f o.1 k (sym u.tail) r.4,
      )
    where
      u : Uncons ws y (sends_of p b x) r.0
      u =
          uncons (sends_of p b x) y ws r.0 (w ∙ r.1)
          (all_map (λ z l. ge_lt (first_held y f o.0) l) (sends_of p b x) (sends_later p S b x (first_small s x r.0 st cur f r.4)))
  mark_replay s x b ws vs st cur (past_ran {y = y} {a = a} {h = h} f) o k w r =
      rw (mark_ran s y a b h) (
        u.rest,
        u.whole,
        r.2,
        r.3,
        mark_replay s x b (insert_all_sorted (sends_of p a y) u.rest) (insert_all_sorted (sends_of p a y) r.0) st' cur f o.1 k
            (all_all (sends_of p b x) (sends_of p a y) u.rest apart ∙ ap (insert_all_sorted (sends_of p a y)) (sym u.tail)) r.4,
      )
    where
      st' : States
      st' = update st y.target (after_of p a y)

      small : x.target < p.count
      small = first_small s x (insert_all_sorted (sends_of p a y) r.0) st' cur f r.4

      u : Uncons ws y (sends_of p b x) r.0
      u = uncons (sends_of p b x) y ws r.0 (w ∙ r.1) (all_map (λ z l. ge_lt (first_held y f o.0) l) (sends_of p b x) (sends_later p S b x small))

      bound : (st' s).sent ≤ (cur s).sent
      bound = sent_grows p S (insert_all_sorted (sends_of p a y) r.0) st' cur h r.4 s

      apart : Disjoint (sends_of p b x) (sends_of p a y)
      apart = disjoint p S y x a b r.2 small (λ q. rw (update_at st (after_of p a y) (sym (first_target f) ∙ sym q), ← k) at bound)
