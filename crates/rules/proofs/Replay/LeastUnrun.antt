-- The least unrun event of a station: where it stands, that there is none, and that no unrun event of the station is before it.
use mathlib.Core.Path.{◌≡◌, refl, sym, ◌∙◌, subst}
use mathlib.Core.Logic.{◌≢◌}
use mathlib.Core.Bool.{cond}
use mathlib.Core.List.Memᴰ
use mathlib.Core.List.{List, [], ◌∷◌}
use Prim.Native.Nat.{ℕ}
use native.Mathlib.Omega.{arith}
use lib.Dec.{eqb}
use Rattle.line.specs.declared.Event.{Event}
use Rattle.line.specs.declared.State.{State}
use Rattle.line.specs.Order.{Ge}
use Rattle.line.proofs.Order.{irr, Which, this, other, which}
use Rattle.rules.specs.Held.{Held, unrun, ran, event, In, none, some, least_unrun}
use Rattle.line.proofs.Members.{all_in}
use Rattle.rules.specs.Replay.{InOrder}
use Rattle.rules.proofs.Replay.Mark as C
use Rattle.rules.proofs.Replay.Mark.{First}

-- ---- what holds of every unrun event

abbrev pub AllUnrun : (Event → Type 0) → List Held → Type 0
AllUnrun P [] = Unit {0}
AllUnrun P (unrun x ∷ h) = P x × AllUnrun P h
AllUnrun P (ran x b ∷ h) = AllUnrun P h

-- no event of station s is unrun
abbrev pub NoUnrun : ℕ → List Held → Type 0
NoUnrun s h = AllUnrun (λ x. x.target ≢ s) h

-- no unrun event of station s is before x
abbrev pub NoneBefore : ℕ → Event → List Held → Type 0
NoneBefore s x h = AllUnrun (λ z. z.target ≡ s → Ge z x) h

pub in_unrun : (P : Event → Type 0) (h : List Held) → ((z : Event) → In (unrun z) h → P z) → AllUnrun P h
in_unrun P [] f = tt
in_unrun P (unrun x ∷ h) f = (f x (Memᴰ.head refl), in_unrun P h (λ z m. f z (Memᴰ.tail m)))
in_unrun P (ran x b ∷ h) f = in_unrun P h (λ z m. f z (Memᴰ.tail m))

pub unrun_in : (P : Event → Type 0) (z : Event) (h : List Held) → In (unrun z) h → AllUnrun P h → P z
unrun_in P z [] m q = elim m [ ]
unrun_in P z (unrun x ∷ h) (Memᴰ.head e) q = let k : z ≡ x = cc in rw k q.0
unrun_in P z (unrun x ∷ h) (Memᴰ.tail m) q = unrun_in P z h m q.1
unrun_in P z (ran x b ∷ h) (Memᴰ.head e) q = let k : ◌≡◌ {A = ℕ} 0 1 = cc in absurd (omega arith)
unrun_in P z (ran x b ∷ h) (Memᴰ.tail m) q = unrun_in P z h m q

-- ---- one event in front

pub least_this : (s : ℕ) (x : Event) (h : List Held) → x.target ≡ s → least_unrun s (unrun x ∷ h) ≡ some x
unfolding least_unrun
least_this s x h e = go (which x.target s)
  where
    go : Which x.target s → cond (eqb x.target s) (some x) (least_unrun s h) ≡ some x
    go (this _ t) = rw t
    go (other n _) = absurd (n e)

pub least_other : (s : ℕ) (x : Event) (h : List Held) → x.target ≢ s → least_unrun s (unrun x ∷ h) ≡ least_unrun s h
unfolding least_unrun
least_other s x h n = go (which x.target s)
  where
    go : Which x.target s → cond (eqb x.target s) (some x) (least_unrun s h) ≡ least_unrun s h
    go (this e _) = absurd (n e)
    go (other _ t) = rw t

pub least_ran : (s : ℕ) (x : Event) (b : State) (h : List Held) → least_unrun s (ran x b ∷ h) ≡ least_unrun s h
unfolding least_unrun
least_ran s x b h = refl

pub least_nil : (s : ℕ) → least_unrun s [] ≡ none
unfolding least_unrun
least_nil s = refl

-- an event of another station in front
pub least_past : (s : ℕ) (y : Held) (h : List Held) → (event y).target ≢ s → least_unrun s (y ∷ h) ≡ least_unrun s h
least_past s (unrun x) h n = least_other s x h n
least_past s (ran x b) h n = least_ran s x b h

-- the same event in front of both
pub least_both : (s : ℕ) (y : Held) (h k : List Held) → least_unrun s h ≡ least_unrun s k → least_unrun s (y ∷ h) ≡ least_unrun s (y ∷ k)
least_both s (ran x b) h k e = least_ran s x b h ∙ e ∙ sym (least_ran s x b k)
least_both s (unrun x) h k e = go (which x.target s)
  where
    go : Which x.target s → least_unrun s (unrun x ∷ h) ≡ least_unrun s (unrun x ∷ k)
    go (this i _) = least_this s x h i ∙ sym (least_this s x k i)
    go (other n _) = least_other s x h n ∙ e ∙ sym (least_other s x k n)

-- ---- events in front of which none is an unrun one of the station

pub least_none : (s : ℕ) (h : List Held) → NoUnrun s h → least_unrun s h ≡ none
least_none s [] n = least_nil s
least_none s (unrun x ∷ h) n = least_other s x h n.0 ∙ least_none s h n.1
least_none s (ran x b ∷ h) n = least_ran s x b h ∙ least_none s h n

-- ---- the same as a relation

pub first_least : {s : ℕ} {x : Event} {h : List Held} → First s x h → least_unrun s h ≡ some x
first_least {s} {x} (C.here {h = h} e) = least_this s x h e
first_least {s} {x} (C.past_unrun {y = y} {h = h} n f) = least_other s y h n ∙ first_least f
first_least {s} {x} (C.past_ran {y = y} {a = b} {h = h} f) = least_ran s y b h ∙ first_least f

-- the station of an unrun event has a first
pub unrun_first : (z : Event) (h : List Held) → In (unrun z) h → (x : Event) × First z.target x h
unrun_first z [] m = elim m [ ]
unrun_first z (y ∷ h) (Memᴰ.head e) = (z, subst (λ v. First z.target z (v ∷ h)) e (C.here refl))
unrun_first z (ran y b ∷ h) (Memᴰ.tail m) = let i = unrun_first z h m in (i.0, C.past_ran i.1)
unrun_first z (unrun y ∷ h) (Memᴰ.tail m) = go (which y.target z.target) (unrun_first z h m)
  where
    go : Which y.target z.target → (x : Event) × First z.target x h → (x : Event) × First z.target x (unrun y ∷ h)
    go (this i _) r = (y, C.here i)
    go (other n _) r = (r.0, C.past_unrun n r.1)

-- ---- the order

-- no unrun event of the station is before its first
pub first_lowest : {s : ℕ} {x : Event} {h : List Held} → First s x h → InOrder h → NoneBefore s x h
first_lowest {s} {x} (C.here {h = h} e) o = ((λ _. irr x), in_unrun (λ z. z.target ≡ s → Ge z x) h (λ z m _. all_in (λ y. Ge (event y) x) m o.0))
first_lowest (C.past_unrun n f) o = ((λ i. absurd (n i)), first_lowest f o.1)
first_lowest (C.past_ran f) o = first_lowest f o.1
