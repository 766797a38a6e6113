-- The station that the calendar names is the target of the first unrun event of all, and there is no other; so run lowest runs the least unrun event.
use mathlib.Core.Path.{◌≡◌, refl, sym, ap, ◌∙◌}
use mathlib.Core.Bool.{Bool, true, false, true≢false}
use mathlib.Core.List.{List, [], ◌∷◌}
use Prim.Native.Nat.{ℕ, ◌≤◌}
use native.Mathlib.Omega.{arith}
use Rattle.line.specs.declared.Event.{Event}
use Rattle.line.specs.Order.{Ge}
use Rattle.line.specs.Event.{before}
use Rattle.line.specs.Station.{Plan, InRange}
use Rattle.line.proofs.Order.{irr, asym, earlier, later_time, lower, higher_target, Tri, below, level, above, tri, Which, this, other, which}
use Rattle.rules.specs.Engine.{Setting, Engine, opened}
use Rattle.rules.specs.Demand.{Made, Calls}
use Rattle.rules.specs.Held.{Held, unrun, ran, In, some, least_unrun, absent, at, time_of, registered, Lowest, none_unrun}
use Rattle.rules.specs.Replay.{InOrder}
use Rattle.rules.proofs.Replay.Mark.{First, first_target, first_held}
use Rattle.rules.proofs.Replay.LeastUnrun.{unrun_in, first_lowest}
use Rattle.rules.proofs.Replay.Registered.{registered_at_lem, registered_first, unrun_registered}
use Rattle.rules.proofs.Calls.Invariant.{least_first}
use Rattle.rules.proofs.Calls.Demand3.{after_calls}
use Rattle.rules.proofs.Calls.Tests.{none_registered_lem}
use Rattle.rules.proofs.Calls.Compute.{lowest_of}

pub lowest_is : (h : List Held) → InOrder h → none_unrun h ≡ false → Lowest h (lowest_of h)
unfolding none_unrun registered least_unrun time_of lowest_of
lowest_is [] o e = absurd (true≢false e)
lowest_is (ran x b ∷ h) o e = let r = lowest_is h o.1 e in record { time = r.time; is = r.is; least = r.least; first = r.first }
lowest_is (unrun x ∷ h) o e = record {
  time = x.time;
  is = here (which x.target x.target);
  least = λ t u k. let y = registered_first t (unrun x ∷ h) u k in omega (arith, later_time (after y.1), y.2);
  first = λ t k.
      let y = registered_first t (unrun x ∷ h) x.time k in
      omega (arith, higher_target (after y.1) y.2, first_target y.1);
}
  where
    here : Which x.target x.target → registered (unrun x ∷ h) x.target ≡ at x.time
    here (this _ t) = rw t
    here (other n _) = absurd (n refl)

    after : {t : ℕ} {y : Event} → First t y (unrun x ∷ h) → Ge y x
    after f = first_held x f (irr x, o.0)

pub one_lowest : {h : List Held} {s t : ℕ} → Lowest h s → Lowest h t → s ≡ t
one_lowest {h} {s} {t} l k =
    let e : l.time ≡ k.time = omega (arith, l.least t k.time k.is, k.least s l.time l.is) in
    omega (arith, l.first t (k.is ∙ ap at (sym e)), k.first s (l.is ∙ ap at e))

-- where a station is the lowest, an event is unrun
pub lowest_unrun : {h : List Held} {s : ℕ} → Lowest h s → none_unrun h ≡ false
lowest_unrun {h} {s} l = go (none_unrun h) refl
  where
    never : absent ≡ at l.time → ⊥
    never q = let z : ◌≡◌ {A = ℕ} 0 1 = cc in omega arith

    go : (v : Bool) → none_unrun h ≡ v → v ≡ false
    go true k = absurd (never (sym (none_registered_lem h s k) ∙ l.is))
    go false k = refl

-- ---- no unrun event is before the one that run lowest runs

lowest_least : {h : List Held} {s : ℕ} (x y : Event) → InOrder h → Lowest h s → least_unrun s h ≡ some x → In (unrun y) h → Ge y x
lowest_least {h} {s} x y o l e m = go (tri x.time y.time) (tri x.target y.target)
  where
    f : First s x h
    f = least_first s h x e

    same_time : x.time ≡ l.time
    same_time = let k : at x.time ≡ at l.time = sym (registered_at_lem s h x e) ∙ l.is in cc

    r : (t : ℕ) × (registered h y.target ≡ at t) × (t ≤ y.time)
    r = unrun_registered y h o m

    no_earlier : l.time ≤ r.0
    no_earlier = l.least y.target r.0 r.1

    no_lower : x.time ≡ y.time → s ≤ y.target
    no_lower t = l.first y.target (r.1 ∙ ap at (omega (arith, same_time, no_earlier, r.2)))

    go : Tri x.time y.time → Tri x.target y.target → Ge y x
    go (below t _) _ = asym (earlier x y t)
    go (above t _) _ = absurd (omega (arith, same_time, no_earlier, r.2))
    go (level t _) (below u _) = asym (lower x y t u)
    go (level t _) (above u _) = absurd (omega (arith, no_lower t, first_target f))
    go (level t _) (level u _) = unrun_in (λ z. z.target ≡ s → Ge z x) y h m (first_lowest f o) (sym u ∙ first_target f)

pub runs_least : (p : Plan) → InRange p → (setting : Setting) {ms : List Made} {e : Engine} {s : ℕ} → Calls p (opened p setting) ms e
    → Lowest e.queue.held s → (x y : Event) → least_unrun s e.queue.held ≡ some x → In (unrun y) e.queue.held → before y x ≡ false
runs_least p S setting c l x y e m = (lowest_least x y (after_calls p S setting c).0.ok.sorted l e m).is
