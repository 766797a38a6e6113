-- The posts that the machine is fed: no two have one number, a new one comes last, and one that is retracted goes out of the waiting events.
use mathlib.Core.Path.{◌≡◌, refl, sym, ap, ◌∙◌}
use mathlib.Core.Logic.{◌≢◌}
use mathlib.Core.Bool.{Bool, true, false, cond, ◌||◌}
use mathlib.Core.List.{List, [], ◌∷◌, ◌++◌, Memᴰ}
use Prim.Native.Nat.{ℕ, ◌≤◌, ◌<◌}
use native.Mathlib.Omega.{arith}
use lib.Dec.{eqb}
use Rattle.refusal.specs.Tests.{horizon}
use Rattle.line.specs.declared.Event.{Event}
use Rattle.line.specs.Event.{posted}
use Rattle.line.specs.Matter.{Suits}
use Rattle.line.specs.Station.{Plan}
use Rattle.line.specs.Order.{Differ, All}
use Rattle.line.proofs.Order.{differ_number, Which, this, other, which}
use Rattle.line.proofs.All.{all_map, all_snoc, Distinct}
use Rattle.rules.specs.Demand.{among, without}
use Rattle.rules.specs.Replay.{insert_sorted, insert_all_sorted}
use Rattle.rules.proofs.Machine.Insert.{insert_comm}
use Rattle.line.proofs.Members.{all_in}

pub record IsPost (p : Plan) (next : ℕ) (x : Event) : Type 0 where
  pub timely : x.time ≤ horizon
  pub inside : x.target < p.count
  pub outer : x.source ≡ posted
  pub numbered : x.number < next
  pub suits : Suits p.count x.matter

-- no two have one number
abbrev pub Numbered : List Event → Type 0
Numbered [] = Unit {0}
Numbered (x ∷ xs) = All (λ y. x.number ≢ y.number) xs × Numbered xs

pub numbered_snoc : (xs : List Event) (y : Event) → All (λ x. x.number ≢ y.number) xs → Numbered xs → Numbered (xs ++ (y ∷ []))
numbered_snoc [] y a d = (tt, tt)
numbered_snoc (x ∷ xs) y a d = (all_snoc (λ z. x.number ≢ z.number) xs y d.0 a.0, numbered_snoc xs y a.1 d.1)

pub numbered_distinct : (xs : List Event) → Numbered xs → Distinct xs
numbered_distinct [] n = tt
numbered_distinct (x ∷ xs) n = (all_map (λ y d. differ_number x y d) xs n.0, numbered_distinct xs n.1)

pub insert_all_snoc : (xs : List Event) (y : Event) (ws : List Event) → All (Differ y) xs → insert_all_sorted (xs ++ (y ∷ [])) ws ≡ insert_sorted y (insert_all_sorted xs ws)
unfolding insert_all_sorted
insert_all_snoc [] y ws a = refl
insert_all_snoc (x ∷ xs) y ws a = ap (insert_sorted x) (insert_all_snoc xs y ws a.1) ∙ sym (insert_comm (insert_all_sorted xs ws) a.0)

-- ---- numbers left out

pub without_all : (P : Event → Type 0) (ns : List ℕ) (xs : List Event) → All P xs → All P (without ns xs)
unfolding without
without_all P ns [] a = tt
without_all P ns (x ∷ xs) a = go (among x.number ns) (without_all P ns xs a.1)
  where
    go : (v : Bool) → All P (without ns xs) → All P (cond v (without ns xs) (x ∷ without ns xs))
    go true i = i
    go false i = (a.0, i)

pub without_numbered : (ns : List ℕ) (xs : List Event) → Numbered xs → Numbered (without ns xs)
unfolding without
without_numbered ns [] a = tt
without_numbered ns (x ∷ xs) a = go (among x.number ns) (without_numbered ns xs a.1)
  where
    go : (v : Bool) → Numbered (without ns xs) → Numbered (cond v (without ns xs) (x ∷ without ns xs))
    go true i = i
    go false i = (without_all (λ y. x.number ≢ y.number) ns xs a.0, i)

-- first some numbers, then others
or_assoc : (a b c : Bool) → ((a || b) || c) ≡ (a || (b || c))
or_assoc true b c = refl
or_assoc false b c = refl

among_append : (n : ℕ) (ks ns : List ℕ) → among n (ks ++ ns) ≡ (among n ks || among n ns)
unfolding among
among_append n [] ns = refl
among_append n (k ∷ ks) ns = ap (λ v. eqb n k || v) (among_append n ks ns) ∙ sym (or_assoc (eqb n k) (among n ks) (among n ns))

pub without_append : (ks ns : List ℕ) (xs : List Event) → without (ks ++ ns) xs ≡ without ns (without ks xs)
unfolding without
without_append ks ns [] = refl
without_append ks ns (x ∷ xs) = rw (among_append x.number ks ns) (go (among x.number ks) (without_append ks ns xs))
  where
    go : (v : Bool) → without (ks ++ ns) xs ≡ without ns (without ks xs)
        → cond (v || among x.number ns) (without (ks ++ ns) xs) (x ∷ without (ks ++ ns) xs) ≡ without ns (cond v (without ks xs) (x ∷ without ks xs))
    go true i = i
    go false i = rw i

-- a number that is larger than all that are left out
not_among : (n : ℕ) (ks : List ℕ) → All (λ k. k < n) ks → among n ks ≡ false
unfolding among
not_among n [] a = refl
not_among n (k ∷ ks) a = go (which n k) (not_among n ks a.1)
  where
    go : Which n k → among n ks ≡ false → (eqb n k || among n ks) ≡ false
    go (this e _) i = absurd (omega (arith, a.0))
    go (other _ t) i = rw t i

pub without_snoc : (ks : List ℕ) (xs : List Event) (x : Event) → All (λ k. k < x.number) ks → without ks (xs ++ (x ∷ [])) ≡ without ks xs ++ (x ∷ [])
unfolding without
without_snoc ks [] x a = rw (not_among x.number ks a)
without_snoc ks (y ∷ xs) x a = go (among y.number ks) (without_snoc ks xs x a)
  where
    go : (v : Bool) → without ks (xs ++ (x ∷ [])) ≡ without ks xs ++ (x ∷ [])
        → cond v (without ks (xs ++ (x ∷ []))) (y ∷ without ks (xs ++ (x ∷ []))) ≡ cond v (without ks xs) (y ∷ without ks xs) ++ (x ∷ [])
    go true i = i
    go false i = ap (λ l. y ∷ l) i

-- ---- one number left out

one_this : (n : ℕ) (x : Event) (xs : List Event) → x.number ≡ n → without (n ∷ []) (x ∷ xs) ≡ without (n ∷ []) xs
unfolding without among
one_this n x xs e = go (which x.number n)
  where
    go : Which x.number n → cond (eqb x.number n || false) (without (n ∷ []) xs) (x ∷ without (n ∷ []) xs) ≡ without (n ∷ []) xs
    go (this _ t) = rw t
    go (other h _) = absurd (h e)

one_other : (n : ℕ) (x : Event) (xs : List Event) → x.number ≢ n → without (n ∷ []) (x ∷ xs) ≡ x ∷ without (n ∷ []) xs
unfolding without among
one_other n x xs e = go (which x.number n)
  where
    go : Which x.number n → cond (eqb x.number n || false) (without (n ∷ []) xs) (x ∷ without (n ∷ []) xs) ≡ x ∷ without (n ∷ []) xs
    go (this h _) = absurd (e h)
    go (other _ t) = rw t

one_none : (n : ℕ) (xs : List Event) → All (λ z. z.number ≢ n) xs → without (n ∷ []) xs ≡ xs
unfolding without
one_none n [] a = refl
one_none n (x ∷ xs) a = one_other n x xs a.0 ∙ ap (λ l. x ∷ l) (one_none n xs a.1)

-- the post x, whose number is n, stands among the waiting events beside the others
pub without_insert : (n : ℕ) (x : Event) (xs ws : List Event) → Memᴰ x xs → x.number ≡ n → Numbered xs
    → insert_all_sorted xs ws ≡ insert_sorted x (insert_all_sorted (without (n ∷ []) xs) ws)
unfolding insert_all_sorted
without_insert n x [] ws m e d = elim m [ ]
without_insert n x (y ∷ ys) ws (Memᴰ.head q) e d =
    let k : y.number ≡ n = ap (λ z. z.number) (sym q) ∙ e in
    rw (one_this n y ys k, one_none n ys (all_map (λ z f j. f (k ∙ sym j)) ys d.0), q)
without_insert n x (y ∷ ys) ws (Memᴰ.tail j) e d =
    let f : y.number ≢ x.number = all_in (λ z. y.number ≢ z.number) j d.0 in
    rw (one_other n y ys (λ q. f (q ∙ sym e))) (ap (insert_sorted y) (without_insert n x ys ws j e d.1) ∙ insert_comm (insert_all_sorted (without (n ∷ []) ys) ws) (differ_number y x f))
