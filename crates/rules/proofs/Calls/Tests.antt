-- The tests for an unrun event, at all and before a time, say what each station's registration says.
use mathlib.Core.Path.{◌≡◌, refl, sym}
use mathlib.Core.Bool.{true, false, true≢false}
use mathlib.Core.List.Memᴰ
use mathlib.Core.List.{List, [], ◌∷◌}
use Prim.Native.Nat.{ℕ, ◌≤◌, ◌<◌}
use native.Mathlib.Omega.{arith}
use Rattle.line.specs.declared.Event.{Event}
use Rattle.rules.specs.Held.{Held, unrun, ran, In, absent, at, registered, none_unrun, unrun_before}
use Rattle.rules.specs.Replay.{InOrder}
use Rattle.rules.proofs.Calls.Commit.{Early, early, late, is_early}
use Rattle.rules.proofs.Undo.RunFirst.{first_in}
use Rattle.rules.proofs.Replay.LeastUnrun.{AllUnrun, NoUnrun, unrun_in, unrun_first}
use Rattle.rules.proofs.Replay.Registered.{registered_absent, first_registered, registered_first, unrun_registered}

-- ---- no event is unrun

none_is_unrun : (h : List Held) (s : ℕ) → none_unrun h ≡ true → NoUnrun s h
unfolding none_unrun
none_is_unrun [] s e = tt
none_is_unrun (unrun x ∷ h) s e = absurd (true≢false (sym e))
none_is_unrun (ran x b ∷ h) s e = none_is_unrun h s e

an_unrun : (h : List Held) → none_unrun h ≡ false → (x : Event) × In (unrun x) h
unfolding none_unrun
an_unrun [] e = absurd (true≢false e)
an_unrun (unrun x ∷ h) e = (x, Memᴰ.head refl)
an_unrun (ran x b ∷ h) e = let r = an_unrun h e in (r.0, Memᴰ.tail r.1)

pub none_registered_lem : (h : List Held) (s : ℕ) → none_unrun h ≡ true → registered h s ≡ absent
none_registered_lem h s e = registered_absent s h (none_is_unrun h s e)

pub some_registered : (h : List Held) → none_unrun h ≡ false → (s t : ℕ) × (registered h s ≡ at t)
some_registered h e =
    let x = an_unrun h e in
    let r = unrun_first x.0 h x.1 in
    (x.0.target, r.0.time, first_registered r.1)

-- ---- an unrun event lies before c

late_unrun : (c : ℕ) (h : List Held) → unrun_before c h ≡ false → AllUnrun (λ x. c ≤ x.time) h
unfolding unrun_before
late_unrun c [] e = tt
late_unrun c (ran x b ∷ h) e = late_unrun c h e
late_unrun c (unrun x ∷ h) e = go (is_early x.time c) (λ k. late_unrun c h k)
  where
    go : Early x.time c → (unrun_before c h ≡ false → AllUnrun (λ y. c ≤ y.time) h) → AllUnrun (λ y. c ≤ y.time) (unrun x ∷ h)
    go (early l t) ih = absurd (true≢false (rw t at e))
    go (late l t) ih = (l, ih (rw t at e))

early_unrun : (c : ℕ) (h : List Held) → unrun_before c h ≡ true → (x : Event) × In (unrun x) h × (x.time < c)
unfolding unrun_before
early_unrun c [] e = absurd (true≢false (sym e))
early_unrun c (ran x b ∷ h) e = let r = early_unrun c h e in (r.0, Memᴰ.tail r.1, r.2)
early_unrun c (unrun x ∷ h) e = go (is_early x.time c) (λ k. early_unrun c h k)
  where
    go : Early x.time c → (unrun_before c h ≡ true → (y : Event) × In (unrun y) h × (y.time < c)) → (y : Event) × In (unrun y) (unrun x ∷ h) × (y.time < c)
    go (early l t) ih = (x, Memᴰ.head refl, l)
    go (late l t) ih = let r = ih (rw t at e) in (r.0, Memᴰ.tail r.1, r.2)

pub none_early : (c : ℕ) (h : List Held) (s t : ℕ) → unrun_before c h ≡ false → registered h s ≡ at t → c ≤ t
none_early c h s t e k =
    let r = registered_first s h t k in
    let l : c ≤ r.0.time = unrun_in (λ x. c ≤ x.time) r.0 h (first_in r.1) (late_unrun c h e) in
    omega (arith, r.2)

pub some_early : (c : ℕ) (h : List Held) → InOrder h → unrun_before c h ≡ true → (s t : ℕ) × (registered h s ≡ at t) × (t < c)
some_early c h o e =
    let x = early_unrun c h e in
    let r = unrun_registered x.0 h o x.1 in
    let l : r.0 < c = omega (arith, x.2, r.2) in
    (x.0.target, r.0, r.1, l)
