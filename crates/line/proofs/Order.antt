-- Laws of the event order: `before` is a strict weak order, events with different numbers or sources are apart,
-- and an earlier time comes first.
--
use mathlib.Core.Path.{◌≡◌, refl, sym, ap, ◌∙◌}
use mathlib.Core.Logic.{◌≢◌, ◌⊎◌, inl, inr}
use mathlib.Core.Bool.{Bool, true, false, true≢false, false≢true}
use Prim.Native.Nat.compare
use Prim.Native.Nat.{ℕ, zero, suc, ◌≤◌, ◌<◌, suc-le-suc, compare, Ordering}
use native.Mathlib.Nat.{zero-lt-suc}
use native.Mathlib.Omega.{arith}
use lib.Dec.{ltb, is_le, eqb, compare_is_eq}
use Rattle.line.specs.declared.Event.{Event}
use Rattle.line.specs.Event.{decide, lex, before}
use Rattle.line.specs.Order.{Lt, Ge, Differ, fst, snd}

-- ---- one number

pub data Tri (m n : ℕ) : Type 0 where
  below : m < n → compare m n ≡ Ordering.lt → Tri m n
  level : m ≡ n → compare m n ≡ Ordering.eq → Tri m n
  above : n < m → compare m n ≡ Ordering.gt → Tri m n

tri_suc : {m n : ℕ} → Tri m n → Tri (suc m) (suc n)
tri_suc {m} {n} (below h e) = below (suc-le-suc h) (compare.suc-suc m n ∙ e)
tri_suc {m} {n} (level h e) = level (ap suc h) (compare.suc-suc m n ∙ e)
tri_suc {m} {n} (above h e) = above (suc-le-suc h) (compare.suc-suc m n ∙ e)

pub tri : (m n : ℕ) → Tri m n
tri zero zero = level refl compare.zero-zero
tri zero (suc n) = below (zero-lt-suc n) (compare.zero-suc n)
tri (suc m) zero = above (zero-lt-suc m) (compare.suc-zero m)
tri (suc m) (suc n) = tri_suc (tri m n)

-- one number or another
pub data Which (m n : ℕ) : Type 0 where
  this : m ≡ n → eqb m n ≡ true → Which m n
  other : m ≢ n → eqb m n ≡ false → Which m n

pub which : (m n : ℕ) → Which m n
which m n = go (tri m n)
  where
    go : Tri m n → Which m n
    go (below h e) = other (omega arith) (ap compare_is_eq e)
    go (level h e) = this h (ap compare_is_eq e)
    go (above h e) = other (omega arith) (ap compare_is_eq e)

pub compare_lt : {m n : ℕ} → m < n → compare m n ≡ Ordering.lt
compare_lt {m} {n} h = go (tri m n)
  where
    go : Tri m n → compare m n ≡ Ordering.lt
    go (below _ e) = e
    go (level e _) = absurd (omega arith)
    go (above l _) = absurd (omega arith)

pub compare_eq : {m n : ℕ} → m ≡ n → compare m n ≡ Ordering.eq
compare_eq {m} {n} h = go (tri m n)
  where
    go : Tri m n → compare m n ≡ Ordering.eq
    go (below l _) = absurd (omega arith)
    go (level _ e) = e
    go (above l _) = absurd (omega arith)

pub compare_gt : {m n : ℕ} → n < m → compare m n ≡ Ordering.gt
compare_gt {m} {n} h = go (tri m n)
  where
    go : Tri m n → compare m n ≡ Ordering.gt
    go (below l _) = absurd (omega arith)
    go (level e _) = absurd (omega arith)
    go (above _ e) = e

lex_below : {m n : ℕ} (t : Bool) → m < n → lex m n t ≡ true
unfolding lex decide
lex_below t h = rw (compare_lt h)

pub lex_level : {m n : ℕ} (t : Bool) → m ≡ n → lex m n t ≡ t
unfolding lex decide
lex_level t h = rw (compare_eq h)

lex_above : {m n : ℕ} (t : Bool) → n < m → lex m n t ≡ false
unfolding lex decide
lex_above t h = rw (compare_gt h)

-- ---- strict weak orders, and one more key in front

pub record Weak {E : Type 0} (R : E → E → Bool) : Type 0 where
  pub irr : (a : E) → R a a ≡ false
  pub tr : (a b c : E) → R a b ≡ true → R b c ≡ true → R a c ≡ true
  pub co : (a b c : E) → R a b ≡ false → R b c ≡ false → R a c ≡ false

pub Apart : {E : Type 0} (R : E → E → Bool) → E → E → Type 0
Apart R a b = (R a b ≡ true) ⊎ (R b a ≡ true)

module _ {E : Type 0} (k : E → ℕ) (R : E → E → Bool) (W : Weak R) where
  abbrev lexed : E → E → Bool
  lexed a b = lex (k a) (k b) (R a b)

  lexed_irr : (a : E) → lexed a a ≡ false
  lexed_irr a = lex_level (R a a) refl ∙ W.irr a

  lexed_tr : (a b c : E) → lexed a b ≡ true → lexed b c ≡ true → lexed a c ≡ true
  lexed_tr a b c p q = go (tri (k a) (k b)) (tri (k b) (k c))
    where
      go : Tri (k a) (k b) → Tri (k b) (k c) → lexed a c ≡ true
      go (below h _) (below l _) = lex_below _ (omega arith)
      go (below h _) (level l _) = lex_below _ (omega arith)
      go (below h _) (above l _) = absurd (false≢true (sym (lex_above _ l) ∙ q))
      go (level h _) (below l _) = lex_below _ (omega arith)
      go (level h _) (level l _) = lex_level _ (h ∙ l) ∙ W.tr a b c (sym (lex_level _ h) ∙ p) (sym (lex_level _ l) ∙ q)
      go (level h _) (above l _) = absurd (false≢true (sym (lex_above _ l) ∙ q))
      go (above h _) (below l _) = absurd (false≢true (sym (lex_above _ h) ∙ p))
      go (above h _) (level l _) = absurd (false≢true (sym (lex_above _ h) ∙ p))
      go (above h _) (above l _) = absurd (false≢true (sym (lex_above _ h) ∙ p))

  lexed_co : (a b c : E) → lexed a b ≡ false → lexed b c ≡ false → lexed a c ≡ false
  lexed_co a b c p q = go (tri (k a) (k b)) (tri (k b) (k c))
    where
      go : Tri (k a) (k b) → Tri (k b) (k c) → lexed a c ≡ false
      go (above h _) (above l _) = lex_above _ (omega arith)
      go (above h _) (level l _) = lex_above _ (omega arith)
      go (above h _) (below l _) = absurd (true≢false (sym (lex_below _ l) ∙ q))
      go (level h _) (above l _) = lex_above _ (omega arith)
      go (level h _) (level l _) = lex_level _ (h ∙ l) ∙ W.co a b c (sym (lex_level _ h) ∙ p) (sym (lex_level _ l) ∙ q)
      go (level h _) (below l _) = absurd (true≢false (sym (lex_below _ l) ∙ q))
      go (below h _) (above l _) = absurd (true≢false (sym (lex_below _ h) ∙ p))
      go (below h _) (level l _) = absurd (true≢false (sym (lex_below _ h) ∙ p))
      go (below h _) (below l _) = absurd (true≢false (sym (lex_below _ h) ∙ p))

  lexed_weak : Weak lexed
  lexed_weak = record { irr = lexed_irr; tr = lexed_tr; co = lexed_co }

  lexed_apart : (a b : E) → Apart R a b → Apart lexed a b
  unfolding Apart
  lexed_apart a b h = go (tri (k a) (k b)) h
    where
      go : Tri (k a) (k b) → (R a b ≡ true) ⊎ (R b a ≡ true) → (lexed a b ≡ true) ⊎ (lexed b a ≡ true)
      go (below l _) d = inl (lex_below _ l)
      go (above l _) d = inr (lex_below _ l)
      go (level e _) (inl r) = inl (lex_level _ e ∙ r)
      go (level e _) (inr r) = inr (lex_level _ (sym e) ∙ r)

  lexed_differ : (a b : E) → k a ≢ k b → Apart lexed a b
  unfolding Apart
  lexed_differ a b h = go (tri (k a) (k b))
    where
      go : Tri (k a) (k b) → (lexed a b ≡ true) ⊎ (lexed b a ≡ true)
      go (below l _) = inl (lex_below _ l)
      go (above l _) = inr (lex_below _ l)
      go (level e _) = absurd (h e)

-- ---- the event order

pub ltb_is : (m n : ℕ) → ltb m n ≡ lex m n false
ltb_is m n = go (tri m n)
  where
    isl : {o : Ordering} → compare (suc m) n ≡ o → ltb m n ≡ is_le o
    isl e = ap is_le e

    go : Tri m n → ltb m n ≡ lex m n false
    go (below l _) = suc_case (tri (suc m) n)
      where
        suc_case : Tri (suc m) n → ltb m n ≡ lex m n false
        suc_case (below _ e) = isl e ∙ sym (lex_below false l)
        suc_case (level _ e) = isl e ∙ sym (lex_below false l)
        suc_case (above h _) = absurd (omega arith)
    go (level h _) = isl (compare_gt (omega arith)) ∙ sym (lex_level false h)
    go (above l _) = isl (compare_gt (omega arith)) ∙ sym (lex_above false l)

-- a first number that differs decides
pub lex_apart : {m n : ℕ} (t : Bool) → m ≢ n → ltb m n ≡ lex m n t
lex_apart {m} {n} t h = ltb_is m n ∙ go (tri m n)
  where
    go : Tri m n → lex m n false ≡ lex m n t
    go (below l _) = lex_below false l ∙ sym (lex_below t l)
    go (level e _) = absurd (h e)
    go (above l _) = lex_above false l ∙ sym (lex_above t l)

abbrev none : Event → Event → Bool
none a b = false

none_weak : Weak none
none_weak = record { irr = λ a. refl; tr = λ a b c p q. absurd (false≢true p); co = λ a b c p q. refl }

abbrev by_num : Event → Event → Bool
by_num a b = lex a.number b.number false

abbrev by_src : Event → Event → Bool
by_src a b = lex a.source b.source (by_num a b)

abbrev by_tgt : Event → Event → Bool
by_tgt a b = lex a.target b.target (by_src a b)

abbrev by_time : Event → Event → Bool
by_time a b = lex a.time b.time (by_tgt a b)

before_is : (a b : Event) → before a b ≡ by_time a b
unfolding before
before_is a b = ap (λ t. lex a.time b.time (lex a.target b.target (lex a.source b.source t))) (ltb_is a.number b.number)

num_weak : Weak by_num
num_weak = lexed_weak (λ e. e.number) none none_weak

src_weak : Weak by_src
src_weak = lexed_weak (λ e. e.source) by_num num_weak

tgt_weak : Weak by_tgt
tgt_weak = lexed_weak (λ e. e.target) by_src src_weak

time_weak : Weak by_time
time_weak = lexed_weak (λ e. e.time) by_tgt tgt_weak

pub irr : (a : Event) → Ge a a
irr a = record { is = before_is a a ∙ time_weak.irr a }

pub tr : {a b c : Event} → Lt a b → Lt b c → Lt a c
tr {a} {b} {c} p q = record { is = before_is a c ∙ time_weak.tr a b c (sym (before_is a b) ∙ p.is) (sym (before_is b c) ∙ q.is) }

pub co : {a b c : Event} → Ge a b → Ge b c → Ge a c
co {a} {b} {c} p q = record { is = before_is a c ∙ time_weak.co a b c (sym (before_is a b) ∙ p.is) (sym (before_is b c) ∙ q.is) }

pub clash : {a b : Event} → Lt a b → Ge a b → ⊥
clash p q = true≢false (sym p.is ∙ q.is)

pub data Cmp (a b : Event) : Type 0 where
  less : Lt a b → Cmp a b
  not_less : Ge a b → Cmp a b

pub cmp : (a b : Event) → Cmp a b
cmp a b = go (before a b) refl
  where
    go : (v : Bool) → before a b ≡ v → Cmp a b
    go true e = less (record { is = e })
    go false e = not_less (record { is = e })

pub differ_sym : {a b : Event} → Differ a b → Differ b a
differ_sym (fst h) = snd h
differ_sym (snd h) = fst h

from_time : (a b : Event) → Apart by_time a b → Differ a b
unfolding Apart
from_time a b (inl h) = fst (record { is = before_is a b ∙ h })
from_time a b (inr h) = snd (record { is = before_is b a ∙ h })

pub differ_number : (a b : Event) → a.number ≢ b.number → Differ a b
differ_number a b h =
    from_time a b
    (lexed_apart (λ e. e.time) by_tgt tgt_weak a b
    (lexed_apart (λ e. e.target) by_src src_weak a b
    (lexed_apart (λ e. e.source) by_num num_weak a b
    (lexed_differ (λ e. e.number) none none_weak a b h))))

pub differ_source : (a b : Event) → a.source ≢ b.source → Differ a b
differ_source a b h =
    from_time a b
    (lexed_apart (λ e. e.time) by_tgt tgt_weak a b
    (lexed_apart (λ e. e.target) by_src src_weak a b
    (lexed_differ (λ e. e.source) by_num num_weak a b h)))

pub differ_target : (a b : Event) → a.target ≢ b.target → Differ a b
differ_target a b h = from_time a b (lexed_apart (λ e. e.time) by_tgt tgt_weak a b (lexed_differ (λ e. e.target) by_src src_weak a b h))

pub earlier : (a b : Event) → a.time < b.time → Lt a b
earlier a b h = record { is = before_is a b ∙ lex_below _ h }

pub later_time : {a b : Event} → Ge a b → b.time ≤ a.time
later_time {a} {b} h = go (tri a.time b.time)
  where
    go : Tri a.time b.time → b.time ≤ a.time
    go (below l _) = absurd (clash (earlier a b l) h)
    go (level e _) = omega arith
    go (above l _) = omega arith

pub lower : (a b : Event) → a.time ≡ b.time → a.target < b.target → Lt a b
lower a b e h = record { is = before_is a b ∙ lex_level _ e ∙ lex_below _ h }

pub higher_target : {a b : Event} → Ge a b → a.time ≡ b.time → b.target ≤ a.target
higher_target {a} {b} h e = go (tri a.target b.target)
  where
    go : Tri a.target b.target → b.target ≤ a.target
    go (below l _) = absurd (clash (lower a b e l) h)
    go (level k _) = omega arith
    go (above l _) = omega arith

pub asym : {a b : Event} → Lt a b → Ge b a
asym {a} {b} h = go (cmp b a)
  where
    go : Cmp b a → Ge b a
    go (not_less e) = e
    go (less e) = absurd (clash (tr h e) (irr a))

-- a before c, and b not before c: a before b
pub lt_ge : {a b c : Event} → Lt a c → Ge b c → Lt a b
lt_ge {a} {b} {c} p q = go (cmp a b)
  where
    go : Cmp a b → Lt a b
    go (less e) = e
    go (not_less e) = absurd (clash p (co e q))

-- b not before a, and b before c: a before c
pub ge_lt : {a b c : Event} → Ge b a → Lt b c → Lt a c
ge_lt {a} {b} {c} p q = go (cmp a c)
  where
    go : Cmp a c → Lt a c
    go (less e) = e
    go (not_less e) = absurd (clash q (co p e))
