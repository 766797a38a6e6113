-- The rules of undoing and removing as equations without the bound: what the contracts of code that does so need.
--     undo_none, undo_some     undoing the run events of s from x on, one at a time, latest first
--     undo_falls               each undo lowers the number of run events
--     `removeAll`, `removing`, `undoEvent` are these equations' other halves, by definition.
-- They hold of every queue, and ask for no invariant.
use mathlib.Core.Path.{◌≡◌, refl, sym, ap, ◌∙◌, subst}
use mathlib.Core.List.{List, [], ◌∷◌}
use Prim.Native.Nat.{ℕ, zero, suc, pred, ◌≤◌}
use native.Mathlib.Nat.{le_refl, le_trans}
use native.Mathlib.Omega.{arith}
use Rattle.line.specs.declared.Event.{Event}
use Rattle.line.specs.Station.{Plan, update, run_event}
use Rattle.line.specs.declared.State.{State}
use Rattle.rules.specs.Held.{Held, Queue, delete}
use Rattle.rules.specs.Executable.{runs, Search, nothing, found, latest, remove_each, undo_found, undo_within, undo_from, removing, remove_all, undo_event}
use Rattle.rules.proofs.Replay.Unmark.{View, latest_view, found_runs}
use Rattle.rules.proofs.Replay.Delete.{delete_runs}

abbrev Undo : Type 0
Undo = Queue → ℕ → Event → Queue

-- an undo that leaves no more events run
abbrev Falls : Undo → Type 0
Falls f = (q : Queue) (s : ℕ) (x : Event) → runs (f q s x).held ≤ runs q.held

remove_falls : (f : Undo) → Falls f → (ys : List Event) (q : Queue) → runs (remove_each f ys q).held ≤ runs q.held
unfolding remove_each
remove_falls f F [] q = le_refl _
remove_falls f F (y ∷ ys) q =
    le_trans (remove_falls f F ys (record { states = (f q y.target y).states; held = delete y (f q y.target y).held }))
    (le_trans (delete_runs y (f q y.target y).held) (F q y.target y))

found_falls : (p : Plan) (f : Undo) → Falls f → (q : Queue) (s : ℕ) (x : Event) (l : Search) → View s x q.held l
    → runs (undo_found p f q s x l).held ≤ runs q.held
unfolding undo_found
found_falls p f F q s x nothing v = le_refl _
found_falls p f F q s x (found e b h) v =
    let a = F (remove_each f (run_event p b e).sends (record { states = update q.states s b; held = h })) s x in
    let c = remove_falls f F (run_event p b e).sends (record { states = update q.states s b; held = h }) in
    omega (arith, a, c, found_runs v)

within_falls : (p : Plan) (n : ℕ) → Falls (undo_within p n)
unfolding undo_within
within_falls p zero q s x = le_refl _
within_falls p (suc n) q s x = found_falls p (undo_within p n) (within_falls p n) q s x (latest s x q.held) (latest_view s x q.held)

-- two undos that agree where at most k events are run
abbrev Agree : ℕ → Undo → Undo → Type 0
Agree k f g = (q : Queue) (s : ℕ) (x : Event) → runs q.held ≤ k → f q s x ≡ g q s x

remove_agree : (k : ℕ) (f g : Undo) → Falls f → Agree k f g → (ys : List Event) (q : Queue) → runs q.held ≤ k → remove_each f ys q ≡ remove_each g ys q
unfolding remove_each
remove_agree k f g F a [] q l = refl
remove_agree k f g F a (y ∷ ys) q l =
    remove_agree k f g F a ys (cut (f q y.target y)) (le_trans (delete_runs y (f q y.target y).held) (le_trans (F q y.target y) l))
    ∙ ap (λ r. remove_each g ys (cut r)) (a q y.target y l)
  where
    cut : Queue → Queue
    cut r = record { states = r.states; held = delete y r.held }

found_agree : (p : Plan) (k : ℕ) (f g : Undo) → Falls f → Agree k f g → (q : Queue) (s : ℕ) (x : Event) (l : Search) → View s x q.held l
    → runs q.held ≤ suc k → undo_found p f q s x l ≡ undo_found p g q s x l
unfolding undo_found
found_agree p k f g F a q s x nothing v l = refl
found_agree p k f g F a q s x (found e b h) v l =
    a (remove_each f ys q₁) s x (le_trans (remove_falls f F ys q₁) small) ∙ ap (λ r. g r s x) (remove_agree k f g F a ys q₁ small)
  where
    ys : List Event
    ys = (run_event p b e).sends

    q₁ : Queue
    q₁ = record { states = update q.states s b; held = h }

    small : runs h ≤ k
    small = omega (arith, found_runs v, l)

none_found : (p : Plan) (f : Undo) (q : Queue) (s : ℕ) (x : Event) (l : Search) → View s x q.held l → runs q.held ≤ zero → undo_found p f q s x l ≡ q
unfolding undo_found
none_found p f q s x nothing v l = refl
none_found p f q s x (found e b h) v l = absurd (omega (arith, found_runs v, l))

within_none : (p : Plan) (n : ℕ) (q : Queue) (s : ℕ) (x : Event) → latest s x q.held ≡ nothing → undo_within p n q s x ≡ q
unfolding undo_within undo_found
within_none p zero q s x e = refl
within_none p (suc n) q s x e = rw e

within_some : (p : Plan) (n : ℕ) (q : Queue) (s : ℕ) (x e : Event) (b : State) (h : List Held) → latest s x q.held ≡ found e b h
    → undo_within p (suc n) q s x ≡ undo_within p n (remove_each (undo_within p n) (run_event p b e).sends (record { states = update q.states s b; held = h })) s x
unfolding undo_within undo_found
within_some p n q s x e b h k = rw k

-- a higher bound changes nothing
pub within_enough : (p : Plan) (n m : ℕ) (q : Queue) (s : ℕ) (x : Event) → runs q.held ≤ n → runs q.held ≤ m → undo_within p n q s x ≡ undo_within p m q s x
unfolding undo_within
within_enough p zero zero q s x k l = refl
within_enough p zero (suc m) q s x k l = sym (none_found p (undo_within p m) q s x (latest s x q.held) (latest_view s x q.held) k)
within_enough p (suc n) zero q s x k l = none_found p (undo_within p n) q s x (latest s x q.held) (latest_view s x q.held) l
within_enough p (suc n) (suc m) q s x k l =
    found_agree p (pred (runs q.held)) (undo_within p n) (undo_within p m) (within_falls p n) (λ r t y h. within_enough p n m r t y (omega (arith, h, k)) (omega (arith, h, l))) q s x (latest s x q.held)
    (latest_view s x q.held) (omega arith)

-- ---- the equations

-- removing each of a list, by any bound that suffices
pub remove_all_lem : (p : Plan) (n : ℕ) (ys : List Event) (q : Queue) → runs q.held ≤ n → remove_each (undo_within p n) ys q ≡ remove_all p ys q
unfolding remove_each remove_all removing undo_from
remove_all_lem p n [] q l = refl
remove_all_lem p n (y ∷ ys) q l =
    remove_all_lem p n ys (cut (undo_within p n q y.target y)) (le_trans (delete_runs y (undo_within p n q y.target y).held) (le_trans (within_falls p n q y.target y) l))
    ∙ ap (λ r. remove_all p ys (cut r)) (within_enough p n (runs q.held) q y.target y l (le_refl _))
  where
    cut : Queue → Queue
    cut r = record { states = r.states; held = delete y r.held }

pub undo_none : (p : Plan) (q : Queue) (s : ℕ) (x : Event) → latest s x q.held ≡ nothing → undo_from p q s x ≡ q
unfolding undo_from
undo_none p q s x e = go (runs q.held)
  where
    go : (n : ℕ) → undo_within p n q s x ≡ q
    go n = within_none p n q s x e

pub undo_falls : (s : ℕ) (x : Event) (h : List Held) (e : Event) (b : State) (h' : List Held) → latest s x h ≡ found e b h' → runs h ≡ suc (runs h')
undo_falls s x h e b h' k = found_runs (subst (View s x h) k (latest_view s x h))

pub from_falls : (p : Plan) → Falls (undo_from p)
unfolding undo_from
from_falls p q s x = within_falls p (runs q.held) q s x

pub remove_all_falls : (p : Plan) (ys : List Event) (q : Queue) → runs (remove_all p ys q).held ≤ runs q.held
unfolding remove_all removing
remove_all_falls p [] q = le_refl _
remove_all_falls p (y ∷ ys) q =
    le_trans (remove_all_falls p ys (record { states = (undo_from p q y.target y).states; held = delete y (undo_from p q y.target y).held }))
    (le_trans (delete_runs y (undo_from p q y.target y).held) (from_falls p q y.target y))

pub undo_some : (p : Plan) (q : Queue) (s : ℕ) (x e : Event) (b : State) (h : List Held) → latest s x q.held ≡ found e b h
    → undo_from p q s x ≡ undo_from p (undo_event p q s e b h) s x
unfolding undo_from undo_event
undo_some p q s x e b h k =
    ap (λ n. undo_within p n q s x) fall ∙ within_some p (runs h) q s x e b h k
    ∙ ap (λ r. undo_within p (runs h) r s x) (remove_all_lem p (runs h) ys q₁ (le_refl _))
    ∙ within_enough p (runs h) (runs (remove_all p ys q₁).held) (remove_all p ys q₁) s x (remove_all_falls p ys q₁) (le_refl _)
  where
    ys : List Event
    ys = (run_event p b e).sends

    q₁ : Queue
    q₁ = record { states = update q.states s b; held = h }

    fall : runs q.held ≡ suc (runs h)
    fall = undo_falls s x q.held e b h k
