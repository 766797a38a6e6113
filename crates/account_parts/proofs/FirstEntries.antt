-- The first entries of a part, and what one more costs.
use mathlib.Core.Path.{◌≡◌, refl, sym, ap, ◌∙◌}
use mathlib.Core.Bool.{◌||◌}
use mathlib.Core.List.{List, [], ◌∷◌, ◌++◌, append-nil, append_assoc}
use Prim.Native.Nat.{ℕ, zero, suc, ◌+◌, ◌*◌, ◌≤◌, ◌<◌}
use native.Mathlib.Decide.{dec_lt}
use native.Mathlib.Numerals.{add-one}
use native.Mathlib.Omega.{arith}
use Rattle.std.proofs.Math.Bool.{or_assoc}
use Rattle.line.proofs.Order.{Which, this, other, which}
use Rattle.account_parts.specs.Part.{LogEntry, entry_at, first_entries, entry_out, any_entry_out}
use Rattle.account_parts.specs.Cost.{cost_here, cost_at}
use Rattle.account_parts.proofs.Costs.{cost_join}

-- the first k stand in front of the first m
abbrev Front : ℕ → ℕ → List ℕ → Type 0
Front k m xs = (es : List LogEntry) × (first_entries m xs ≡ first_entries k xs ++ es)

front : (k m : ℕ) (xs : List ℕ) → k ≤ m → Front k m xs
unfolding first_entries
front k zero xs h = let e : k ≡ 0 = omega arith in ([], rw e)
front k (suc m) xs h = go (dec_lt m k) (λ l. front k m xs l)
  where
    go : Dec (m < k) → (k ≤ m → Front k m xs) → Front k (suc m) xs
    go (yes l) f = let e : k ≡ suc m = omega arith in ([], rw e (sym (append-nil _)))
    go (no l) f =
        let g = f (omega arith) in
        (g.0 ++ (entry_at (24 * m) xs ∷ []), rw g.1 (append_assoc (first_entries k xs) g.0 _))

-- ---- 19

pub any_join : (n : ℕ) (es fs : List LogEntry) → any_entry_out n (es ++ fs) ≡ (any_entry_out n es || any_entry_out n fs)
unfolding any_entry_out
any_join n [] fs = refl
any_join n (e ∷ es) fs =
    ap (λ b. entry_out n e || b) (any_join n es fs) ∙ sym (or_assoc (entry_out n e) (any_entry_out n es) (any_entry_out n fs))

-- ---- costs

module _ (a b s : ℕ) (xs : List ℕ) (k : ℕ) where
  pub cost_next : cost_at a b s (first_entries (k + 1) xs) ≡ cost_at a b s (first_entries k xs) + cost_here a b s (entry_at (24 * k) xs)
  unfolding first_entries cost_at
  cost_next = rw add-one (omega (arith, cost_join a b s (first_entries k xs) (entry_at (24 * k) xs ∷ [])))

  pub cost_most : (m : ℕ) → k ≤ m → cost_at a b s (first_entries k xs) ≤ cost_at a b s (first_entries m xs)
  cost_most m l =
      let f = front k m xs l in
      rw f.1 (omega (arith, cost_join a b s (first_entries k xs) f.0))

-- where they cost something at a station, one of them has it as its target
pub some_target : (a b s : ℕ) (xs : List ℕ) (m : ℕ) → 0 < cost_at a b s (first_entries m xs) → (i : ℕ) × (i < m) × ((entry_at (24 * i) xs).target ≡ s)
unfolding first_entries cost_at cost_here
some_target a b s xs zero h = absurd (omega arith)
some_target a b s xs (suc m) h = go (which (entry_at (24 * m) xs).target s) (some_target a b s xs m)
  where
    go : Which (entry_at (24 * m) xs).target s → (0 < cost_at a b s (first_entries m xs) → (i : ℕ) × (i < m) × ((entry_at (24 * i) xs).target ≡ s))
        → (i : ℕ) × (i < suc m) × ((entry_at (24 * i) xs).target ≡ s)
    go (this e _) f = (m, omega arith, e)
    go (other _ e) f =
        let j = cost_join a b s (first_entries m xs) (entry_at (24 * m) xs ∷ []) in
        let r = f (omega (arith, h, rw e at j)) in
        (r.0, omega (arith, r.1), r.2)
