-- Sorted insertion: insertions of different events commute, and the head of a list is the least of it.
use mathlib.Core.Path.{◌≡◌, refl, sym, ap, ◌∙◌, subst}
use mathlib.Core.List.{List, [], ◌∷◌}
use Rattle.line.specs.declared.Event.{Event}
use Rattle.line.specs.Order.{Lt, Ge, Differ, fst, snd, All}
use Rattle.line.proofs.Order.{Cmp, less, not_less, cmp, asym, tr, irr, clash}
use Rattle.rules.specs.Replay.{insert_sorted, insert_all_sorted}

pub insert_lt : {x y : Event} (ys : List Event) → Lt y x → insert_sorted x (y ∷ ys) ≡ y ∷ insert_sorted x ys
unfolding insert_sorted
insert_lt ys h = rw h.is

pub insert_ge : {x y : Event} (ys : List Event) → Ge y x → insert_sorted x (y ∷ ys) ≡ x ∷ y ∷ ys
unfolding insert_sorted
insert_ge ys h = rw h.is

pub insert_nil : (x : Event) → insert_sorted x [] ≡ x ∷ []
unfolding insert_sorted
insert_nil x = refl

comm_lt : (a b : Event) (ws : List Event) → Lt a b → insert_sorted a (insert_sorted b ws) ≡ insert_sorted b (insert_sorted a ws)
comm_lt a b [] h =
    ap (insert_sorted a) (insert_nil b) ∙ insert_ge [] (asym h) ∙ ap (λ l. a ∷ l) (sym (insert_nil b)) ∙ sym (insert_lt [] h)
    ∙ ap (insert_sorted b) (sym (insert_nil a))
comm_lt a b (w ∷ ws) h = go (cmp w a) (cmp w b) (comm_lt a b ws h)
  where
    go : Cmp w a → Cmp w b → insert_sorted a (insert_sorted b ws) ≡ insert_sorted b (insert_sorted a ws) → insert_sorted a (insert_sorted b (w ∷ ws)) ≡ insert_sorted b (insert_sorted a (w ∷ ws))
    go (less p) (less q) ih =
        ap (insert_sorted a) (insert_lt ws q) ∙ insert_lt (insert_sorted b ws) p ∙ ap (λ l. w ∷ l) ih ∙ sym (insert_lt (insert_sorted a ws) q) ∙ ap (insert_sorted b) (sym (insert_lt ws p))
    go (less p) (not_less q) ih = absurd (clash (tr p h) q)
    go (not_less p) (less q) ih =
        ap (insert_sorted a) (insert_lt ws q) ∙ insert_ge (insert_sorted b ws) p ∙ ap (λ l. a ∷ l) (sym (insert_lt ws q)) ∙ sym (insert_lt (w ∷ ws) h) ∙ ap (insert_sorted b) (sym (insert_ge ws p))
    go (not_less p) (not_less q) ih =
        ap (insert_sorted a) (insert_ge ws q) ∙ insert_ge (w ∷ ws) (asym h) ∙ ap (λ l. a ∷ l) (sym (insert_ge ws q)) ∙ sym (insert_lt (w ∷ ws) h) ∙ ap (insert_sorted b) (sym (insert_ge ws p))

pub insert_comm : {a b : Event} (ws : List Event) → Differ a b → insert_sorted a (insert_sorted b ws) ≡ insert_sorted b (insert_sorted a ws)
insert_comm {a} {b} ws (fst h) = comm_lt a b ws h
insert_comm {a} {b} ws (snd h) = sym (comm_lt b a ws h)

pub insert_all_nil : (ws : List Event) → insert_all_sorted [] ws ≡ ws
unfolding insert_all_sorted
insert_all_nil ws = refl

pub insert_all : (a : Event) (xs ws : List Event) → All (Differ a) xs → insert_sorted a (insert_all_sorted xs ws) ≡ insert_all_sorted xs (insert_sorted a ws)
unfolding insert_all_sorted
insert_all a [] ws d = refl
insert_all a (x ∷ xs) ws d = insert_comm (insert_all_sorted xs ws) d.0 ∙ ap (insert_sorted x) (insert_all a xs ws d.1)

-- every event of the one list differs from every event of the other
abbrev pub Disjoint : List Event → List Event → Type 0
Disjoint xs ys = All (λ x. All (Differ x) ys) xs

pub all_all : (xs ys ws : List Event) → Disjoint xs ys → insert_all_sorted xs (insert_all_sorted ys ws) ≡ insert_all_sorted ys (insert_all_sorted xs ws)
unfolding insert_all_sorted
all_all [] ys ws d = refl
all_all (x ∷ xs) ys ws d = ap (insert_sorted x) (all_all xs ys ws d.1) ∙ insert_all x ys (insert_all_sorted xs ws) d.0

pub all_head : (w : Event) (xs ws : List Event) → All (Lt w) xs → insert_all_sorted xs (w ∷ ws) ≡ w ∷ insert_all_sorted xs ws
unfolding insert_all_sorted
all_head w [] ws d = refl
all_head w (x ∷ xs) ws d = ap (insert_sorted x) (all_head w xs ws d.1) ∙ insert_lt (insert_all_sorted xs ws) d.0

-- where x stands in `insertSorted x ws`: in front, or after the head
pub data Where (x : Event) (ws : List Event) : Type 0 where
  front : insert_sorted x ws ≡ x ∷ ws → Where x ws
  back : (w : Event) (vs : List Event) → ws ≡ w ∷ vs → Lt w x → insert_sorted x ws ≡ w ∷ insert_sorted x vs → Where x ws

pub insert_where : (x : Event) (ws : List Event) → Where x ws
insert_where x [] = front (insert_nil x)
insert_where x (w ∷ ws) = go (cmp w x)
  where
    go : Cmp w x → Where x (w ∷ ws)
    go (less h) = back w ws refl h (insert_lt ws h)
    go (not_less h) = front (insert_ge ws h)

-- the head of a list with x inserted, where the head is before x, is the head of the list
pub record Uncons (ws : List Event) (w : Event) (xs vs : List Event) : Type 0 where
  pub rest : List Event
  pub whole : ws ≡ w ∷ rest
  pub tail : vs ≡ insert_all_sorted xs rest

uncons_one : (x w : Event) (ws vs : List Event) → insert_sorted x ws ≡ w ∷ vs → Lt w x → (r : List Event) × (ws ≡ w ∷ r) × (vs ≡ insert_sorted x r)
uncons_one x w ws vs e h = go (insert_where x ws)
  where
    go : Where x ws → (r : List Event) × (ws ≡ w ∷ r) × (vs ≡ insert_sorted x r)
    go (front f) = let q : x ≡ w = cc in absurd (clash h (subst (λ v. Ge w v) (sym q) (irr w)))
    go (back w' r k l f) = let q : w' ≡ w = cc in (r, (cc), (cc))

pub uncons : (xs : List Event) (w : Event) (ws vs : List Event) → insert_all_sorted xs ws ≡ w ∷ vs → All (Lt w) xs → Uncons ws w xs vs
unfolding insert_all_sorted
uncons [] w ws vs e h = record { rest = vs; whole = e; tail = refl }
uncons (x ∷ xs) w ws vs e h = go (uncons_one x w (insert_all_sorted xs ws) vs e h.0) (λ u k. uncons xs w ws u k h.1)
  where
    go : (r : List Event) × (insert_all_sorted xs ws ≡ w ∷ r) × (vs ≡ insert_sorted x r) → ((u : List Event) → insert_all_sorted xs ws ≡ w ∷ u → Uncons ws w xs u)
        → Uncons ws w (x ∷ xs) vs
    go t f = let u = f t.0 t.1 in record { rest = u.rest; whole = u.whole; tail = t.2 ∙ ap (insert_sorted x) u.tail }
