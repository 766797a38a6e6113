-- A change of an event leaves the registrations of the stations other than its target, and a commit leaves all.
use mathlib.Core.Path.{◌≡◌, refl, sym, ◌∙◌}
use mathlib.Core.Logic.{◌≢◌}
use mathlib.Core.Bool.{Bool, true, false, cond, true≢false}
use mathlib.Core.List.{List, [], ◌∷◌}
use Prim.Native.Nat.{ℕ}
use Rattle.line.specs.declared.Event.{Event}
use Rattle.line.specs.declared.State.{State}
use Rattle.line.specs.Event.{before}
use Rattle.line.proofs.Order.{differ_target, Which, this, other, which}
use Rattle.rules.specs.Held.{Held, unrun, ran, event, same, unmark, delete, place, mark, least_unrun, registered}
use Rattle.rules.proofs.Replay.LeastUnrun.{least_other, least_ran, least_past, least_both}
use Rattle.rules.proofs.Replay.Registered.{registered_as, differ_same}

-- events that are one have one target
pub same_target : (a b : Event) → same a b ≡ true → a.target ≡ b.target
same_target a b e = go (which a.target b.target)
  where
    go : Which a.target b.target → a.target ≡ b.target
    go (this i _) = i
    go (other n _) = absurd (true≢false (sym e ∙ differ_same (differ_target a b n)))

place_least : (x : Event) (h : List Held) (s : ℕ) → s ≢ x.target → least_unrun s (place x h) ≡ least_unrun s h
unfolding place
place_least x [] s n = least_other s x [] (λ k. n (sym k))
place_least x (y ∷ h) s n = go (before (event y) x) (place_least x h s n)
  where
    go : (v : Bool) → least_unrun s (place x h) ≡ least_unrun s h → least_unrun s (cond v (y ∷ place x h) (unrun x ∷ y ∷ h)) ≡ least_unrun s (y ∷ h)
    go true i = least_both s y (place x h) h i
    go false i = least_other s x (y ∷ h) (λ k. n (sym k))

unmark_least : (x : Event) (h : List Held) (s : ℕ) → s ≢ x.target → least_unrun s (unmark x h) ≡ least_unrun s h
unfolding unmark
unmark_least x [] s n = refl
unmark_least x (y ∷ h) s n = go (same (event y) x) refl (unmark_least x h s n)
  where
    go : (v : Bool) → same (event y) x ≡ v → least_unrun s (unmark x h) ≡ least_unrun s h
        → least_unrun s (cond v (unrun (event y) ∷ h) (y ∷ unmark x h)) ≡ least_unrun s (y ∷ h)
    go true e i = let k : (event y).target ≢ s = λ q. n (sym q ∙ same_target (event y) x e) in least_other s (event y) h k ∙ sym (least_past s y h k)
    go false e i = least_both s y (unmark x h) h i

delete_least : (x : Event) (h : List Held) (s : ℕ) → s ≢ x.target → least_unrun s (delete x h) ≡ least_unrun s h
unfolding delete
delete_least x [] s n = refl
delete_least x (y ∷ h) s n = go (same (event y) x) refl (delete_least x h s n)
  where
    go : (v : Bool) → same (event y) x ≡ v → least_unrun s (delete x h) ≡ least_unrun s h → least_unrun s (cond v h (y ∷ delete x h)) ≡ least_unrun s (y ∷ h)
    go true e i = sym (least_past s y h (λ q. n (sym q ∙ same_target (event y) x e)))
    go false e i = least_both s y (delete x h) h i

mark_least : (t : ℕ) (b : State) (h : List Held) (s : ℕ) → s ≢ t → least_unrun s (mark t b h) ≡ least_unrun s h
unfolding mark
mark_least t b [] s n = refl
mark_least t b (ran y a ∷ h) s n = least_both s (ran y a) (mark t b h) h (mark_least t b h s n)
mark_least t b (unrun y ∷ h) s n = go (which y.target t) (mark_least t b h s n)
  where
    go : Which y.target t → least_unrun s (mark t b h) ≡ least_unrun s h → least_unrun s (mark t b (unrun y ∷ h)) ≡ least_unrun s (unrun y ∷ h)
    go (this e k) i = rw k (least_ran s y b h ∙ sym (least_other s y h (λ q. n (sym q ∙ e))))
    go (other e k) i = rw k (least_both s (unrun y) (mark t b h) h i)

pub place_elsewhere : (x : Event) (h : List Held) (s : ℕ) → s ≢ x.target → registered (place x h) s ≡ registered h s
place_elsewhere x h s n = registered_as s (place x h) h (place_least x h s n)

pub unmark_elsewhere : (x : Event) (h : List Held) (s : ℕ) → s ≢ x.target → registered (unmark x h) s ≡ registered h s
unmark_elsewhere x h s n = registered_as s (unmark x h) h (unmark_least x h s n)

pub delete_elsewhere : (x : Event) (h : List Held) (s : ℕ) → s ≢ x.target → registered (delete x h) s ≡ registered h s
delete_elsewhere x h s n = registered_as s (delete x h) h (delete_least x h s n)

pub mark_elsewhere : (t : ℕ) (b : State) (h : List Held) (s : ℕ) → s ≢ t → registered (mark t b h) s ≡ registered h s
mark_elsewhere t b h s n = registered_as s (mark t b h) h (mark_least t b h s n)
