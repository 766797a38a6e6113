-- The invariant: the held events are the trace of a plain machine that leaves some of them unrun.
-- `Replay p ws st cur h`: a machine that starts with the waiting events ws and the station states st, takes the least waiting
-- event each time, runs it or leaves it as h says, and no more of a station once one of its events is left, takes
-- the events of h in their order, saves the states that h has for its run events, and ends with nothing waiting and the states cur.
use mathlib.Core.Path.{◌≡◌, sym, ◌∙◌, subst}
use mathlib.Core.Logic.{◌≢◌}
use mathlib.Core.List.{List, [], ◌∷◌}
use Prim.Native.Nat.{ℕ, ◌≤◌, ◌<◌}
use native.Mathlib.Nat.{le_refl, le_trans}
use native.Mathlib.Omega.{arith}
use Rattle.line.specs.declared.Event.{Event}
use Rattle.rules.specs.Replay.{insert_all_sorted, NoRun, Replay, Fresh}
use Rattle.rules.proofs.Machine.Insert.{Disjoint}
use Rattle.line.proofs.Order.{Which, this, other, which, differ_number, differ_source, earlier}
use Rattle.rules.proofs.Update.{update_at, update_other}
use Rattle.line.specs.Station.{Plan, InRange, States, update, run_event}
use Rattle.line.specs.declared.State.{State}
use Rattle.rules.specs.Held.{Held, unrun, ran}
use Rattle.line.specs.Order.{Lt, Differ, All}
use Rattle.line.proofs.All.{all_map}
use Rattle.line.proofs.Sends.{Sent, Good, event_good, grows as sent-rises}

abbrev pub sends_of : Plan → State → Event → List Event
sends_of p b x = (run_event p b x).sends

abbrev pub after_of : Plan → State → Event → State
after_of p b x = (run_event p b x).after

module _ (p : Plan) (S : InRange p) where
  good : (b : State) (x : Event) → x.target < p.count → Good p.count x.target x.time b.sent (run_event p b x)
  good b x h = event_good p S b x h

  -- the sends come after their cause
  pub sends_later : (b : State) (x : Event) → x.target < p.count → All (Lt x) (sends_of p b x)
  sends_later b x h = all_map (λ y w. earlier x y w.after) (sends_of p b x) (good b x h).each

  -- running an event only raises the numbers of sends
  pub grows : (st : States) (b : State) (x : Event) → x.target < p.count → b ≡ st x.target → (s : ℕ)
      → (st s).sent ≤ (update st x.target (after_of p b x) s).sent
  grows st b x h e s = go (which s x.target)
    where
      go : Which s x.target → (st s).sent ≤ (update st x.target (after_of p b x) s).sent
      go (this k _) = rw (update_at st (after_of p b x) k, k, ← e) (sent-rises (good b x h))
      go (other k _) = rw (update_other st (after_of p b x) k) (le_refl _)

  pub sent_grows : (ws : List Event) (st cur : States) (h : List Held) → Replay p ws st cur h → (s : ℕ) → (st s).sent ≤ (cur s).sent
  sent_grows ws st cur [] r s = rw (r.1 s) (le_refl _)
  sent_grows ws st cur (unrun x ∷ h) r s = sent_grows r.0 st cur h r.4 s
  sent_grows ws st cur (ran x b ∷ h) r s =
      le_trans (grows st b x r.2 r.3 s) (sent_grows (insert_all_sorted (sends_of p b x) r.0) (update st x.target (after_of p b x)) cur h r.4 s)

  -- an event whose source is no station, or whose number its source has not reached, differs from every send of a run event
  fresh_one : (y x : Event) (b : State) → x.target < p.count → (x.target ≡ y.source → (after_of p b x).sent ≤ y.number) → All (Differ y) (sends_of p b x)
  fresh_one y x b h k = all_map one (sends_of p b x) (good b x h).each
    where
      one : (z : Event) → Sent p.count x.target x.time b.sent (after_of p b x).sent z → Differ y z
      one z w = go (which x.target y.source)
        where
          go : Which x.target y.source → Differ y z
          go (this e _) = differ_number y z (omega (arith, k e, w.to))
          go (other e _) = differ_source y z (λ q. e (sym w.source_is ∙ sym q))

  pub fresh_above : (y : Event) (ws : List Event) (st cur : States) (h : List Held) → Replay p ws st cur h
      → (y.source < p.count → (cur y.source).sent ≤ y.number) → Fresh p y h
  fresh_above y ws st cur [] r k = tt
  fresh_above y ws st cur (unrun x ∷ h) r k = fresh_above y r.0 st cur h r.4 k
  fresh_above y ws st cur (ran x b ∷ h) r k =
      (fresh_one y x b r.2 bound, fresh_above y (insert_all_sorted (sends_of p b x) r.0) (update st x.target (after_of p b x)) cur h r.4 k)
    where
      up : (update st x.target (after_of p b x) y.source).sent ≤ (cur y.source).sent
      up = sent_grows (insert_all_sorted (sends_of p b x) r.0) (update st x.target (after_of p b x)) cur h r.4 y.source

      bound : x.target ≡ y.source → (after_of p b x).sent ≤ y.number
      bound e = le_trans (rw (update_at st {s = x.target} {t = y.source} (after_of p b x) (sym e)) at up) (k (subst (λ t. t < p.count) e r.2))

  -- the sends of one run event differ from those of a later one
  pub disjoint : (x e : Event) (b₁ b : State) → x.target < p.count → e.target < p.count → (x.target ≡ e.target → (after_of p b₁ x).sent ≤ b.sent)
      → Disjoint (sends_of p b e) (sends_of p b₁ x)
  disjoint x e b₁ b h k le = all_map one (sends_of p b e) (good b e k).each
    where
      one : (z : Event) → Sent p.count e.target e.time b.sent (after_of p b e).sent z → All (Differ z) (sends_of p b₁ x)
      one z w = fresh_one z x b₁ h (λ q. le_trans (le (q ∙ w.source_is)) w.from)

  -- where no event of s is run, the states may differ at s
  pub elsewhere : (s : ℕ) (ws : List Event) (st st' cur cur' : States) (h : List Held) → NoRun s h → ((t : ℕ) → t ≢ s → st t ≡ st' t)
      → ((t : ℕ) → t ≢ s → cur t ≡ cur' t) → cur' s ≡ st' s
      → Replay p ws st cur h → Replay p ws st' cur' h
  elsewhere s ws st st' cur cur' [] q f g e r = (r.0, λ t. go t (which t s))
    where
      go : (t : ℕ) → Which t s → cur' t ≡ st' t
      go t (this k _) = rw k e
      go t (other k _) = sym (g t k) ∙ r.1 t ∙ f t k
  elsewhere s ws st st' cur cur' (unrun x ∷ h) q f g e r = (r.0, r.1, r.2, r.3, elsewhere s r.0 st st' cur cur' h q f g e r.4)
  elsewhere s ws st st' cur cur' (ran x b ∷ h) q f g e r = (
    r.0,
    r.1,
    r.2,
    r.3 ∙ f x.target q.0,
    elsewhere s (insert_all_sorted (sends_of p b x) r.0) (update st x.target (after_of p b x)) (update st' x.target (after_of p b x)) cur cur' h q.1 f' g e' r.4,
  )
    where
      v : State
      v = after_of p b x

      f' : (t : ℕ) → t ≢ s → update st x.target v t ≡ update st' x.target v t
      f' t k = go (which t x.target)
        where
          go : Which t x.target → update st x.target v t ≡ update st' x.target v t
          go (this j _) = update_at st v j ∙ sym (update_at st' v j)
          go (other j _) = update_other st v j ∙ f t k ∙ sym (update_other st' v j)

      e' : cur' s ≡ update st' x.target v s
      e' = e ∙ sym (update_other st' v (λ j. q.0 (sym j)))

  -- where no event of s is run, its state stays
  pub stays : (s : ℕ) (ws : List Event) (st cur : States) (h : List Held) → NoRun s h → Replay p ws st cur h → cur s ≡ st s
  stays s ws st cur [] q r = r.1 s
  stays s ws st cur (unrun x ∷ h) q r = stays s r.0 st cur h q r.4
  stays s ws st cur (ran x b ∷ h) q r =
      stays s (insert_all_sorted (sends_of p b x) r.0) (update st x.target (after_of p b x)) cur h q.1 r.4 ∙ update_other st (after_of p b x) (λ j. q.0 (sym j))
