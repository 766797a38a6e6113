-- A part's costs at each station, added up entry by entry, until a charge would pass 64 bits with them.
use mathlib.Core.Path.{◌≡◌, refl, sym, ◌∙◌}
use mathlib.Core.Bool.{true, false, cond, ◌||◌}
use mathlib.Core.List.{List}
use Prim.Native.Nat.{ℕ, zero, suc, ◌+◌, ◌*◌, ◌≤◌, ◌<◌}
use native.Mathlib.Nat.{le_refl}
use native.Mathlib.Omega.{arith}
use borrow.Author.Tests.{lt-ltb, le-ltb, eq-eqb}
use lib.Dec.{eqb}
use lib.ListN.{length, get_or, set, replicate, length-set, length-replicate}
use lib.Seq.{get_or-set_same, get_or-set_other}
use Rattle.std.proofs.Math.Bool.{or-true}
use Rattle.words.proofs.Laws.{load_lt}
use Rattle.refusal.specs.Tests.{charge_passes}
use Rattle.line.proofs.Order.{Which, this, other, which}
use Rattle.account_parts.specs.Part.{entry_at, first_entries}
use Rattle.account_parts.specs.Cost.{cost_of, cost_here, cost_at}
use Rattle.account_parts.proofs.FirstEntries.{cost_next, cost_most}
use Rattle.account.specs.Account.{charge_at, charged, any_passes}
use Rattle.account.specs.Steps.{Costs, CostsFit}

-- ---- 20

-- it looks at the charges of the stations alone
pub passes_same : (n : ℕ) (f g : ℕ → ℕ) → ((s : ℕ) → s < n → f s ≡ g s) → any_passes n f ≡ any_passes n g
unfolding any_passes
passes_same zero f g h = refl
passes_same (suc n) f g h = rw (passes_same n f g (λ s l. h s (omega arith)), h n (omega arith))

pub none_passes : (n : ℕ) (f : ℕ → ℕ) → ((s : ℕ) → s < n → f s ≤ 18446744073709551615) → any_passes n f ≡ false
unfolding any_passes
none_passes zero f h = refl
none_passes (suc n) f h = rw (none_passes n f (λ s l. h s (omega arith)), le-ltb 18446744073709551615 (f n) (h n (le_refl _)))

one_passes : (n s : ℕ) (f : ℕ → ℕ) → s < n → 18446744073709551615 < f s → any_passes n f ≡ true
unfolding any_passes
one_passes zero s f l h = absurd (omega arith)
one_passes (suc n) s f l h = go (which s n) (λ i. one_passes n s f i h)
  where
    go : Which s n → (s < n → any_passes n f ≡ true) → (any_passes n f || charge_passes (f n)) ≡ true
    go (this e _) i = rw (lt-ltb 18446744073709551615 (f n) (rw (← e) h), or-true (any_passes n f))
    go (other e _) i = rw (i (omega (arith, e)))

-- ---- the first k entries are added

-- no cost yet
pub zeros : (n s : ℕ) → ◌≡◌ {A = ℕ} (get_or (replicate n 0) s 0) 0
zeros zero s = refl
zeros (suc n) zero = refl
zeros (suc n) (suc s) = zeros n s

pub no_costs : Costs (replicate 256 0)
no_costs = record { count = length-replicate {A = ℕ} 256 0; fit = λ s. omega (arith, zeros 256 s) }

-- one number changed
pub costs_set : (ws : List ℕ) (t v : ℕ) → v ≤ 18446744073709551615 → t < 256 → Costs ws → Costs (set ws t v)
costs_set ws t v f l h = record { count = length-set ws t v ∙ h.count; fit = λ s. go s (which s t) }
  where
    go : (s : ℕ) → Which s t → get_or (set ws t v) s 0 ≤ 18446744073709551615
    go s (this e _) = rw (e, get_or-set_same ws t v 0 (omega (arith, h.count))) f
    go s (other e _) = rw (get_or-set_other ws t s v 0 e) (h.fit s)

pub record CostsSoFar (a b n : ℕ) (part xs : List ℕ) (k : ℕ) (ws : List ℕ) : Type 0 where
  pub words : Costs ws
  pub fits : CostsFit n ws xs
  pub costs : (s : ℕ) → s < n → get_or ws s 0 ≡ cost_at a b s (first_entries k part)

module _ (a b n : ℕ) (part xs : List ℕ) where
  pub costs_none : (ws : List ℕ) → ws ≡ replicate 256 0 → ((j : ℕ) → get_or xs j 0 < 256) → CostsSoFar a b n part xs 0 ws
  unfolding first_entries cost_at
  costs_none ws e low =
      rw e (record { words = no_costs; fits = record { sums = λ s l. omega (arith, zeros 256 s, load_lt 8 (8 + 8 * s) xs low) }; costs = λ s l. zeros 256 s })

  -- one entry more, with target t, kind d and cost c
  module _ (k : ℕ) (ws : List ℕ) (h : CostsSoFar a b n part xs k ws) (t d c : ℕ)
      (et : t ≡ (entry_at (24 * k) part).target) (ed : d ≡ (entry_at (24 * k) part).kind) (ec : c ≡ cost_of a b d) where
    more : (s : ℕ) → cost_at a b s (first_entries (k + 1) part) ≡ cost_at a b s (first_entries k part) + cond (eqb t s) c 0
    unfolding cost_here
    more s = rw (et, ec, ed) (cost_next a b s part k)

    -- the target is no station
    pub costs_beside : n ≤ t → CostsSoFar a b n part xs (k + 1) ws
    costs_beside l = record { words = h.words; fits = h.fits; costs = λ s m. go s m (which t s) }
      where
        go : (s : ℕ) → s < n → Which t s → get_or ws s 0 ≡ cost_at a b s (first_entries (k + 1) part)
        go s m (this e _) = absurd (omega (arith, e))
        go s m (other _ e) = omega (arith, h.costs s m, rw e at (more s))

    pub costs_next : t < n → n ≤ 256 → charge_at xs t + get_or ws t 0 + c ≤ 18446744073709551615
        → CostsSoFar a b n part xs (k + 1) (set ws t (get_or ws t 0 + c))
    costs_next l m f = record {
      words = costs_set ws t (get_or ws t 0 + c) (omega arith) (omega arith) h.words;
      fits = record { sums = λ s i. fit s i (which s t) };
      costs = λ s i. go s i (which t s);
    }
      where
        inside : t < length ws
        inside = omega (arith, h.words.count)

        fit : (s : ℕ) → s < n → Which s t → charge_at xs s + get_or (set ws t (get_or ws t 0 + c)) s 0 ≤ 18446744073709551615
        fit s i (this e _) = rw (e, get_or-set_same ws t (get_or ws t 0 + c) 0 inside) (omega (arith, f))
        fit s i (other e _) = rw (get_or-set_other ws t s (get_or ws t 0 + c) 0 e) (h.fits.sums s i)

        go : (s : ℕ) → s < n → Which t s → get_or (set ws t (get_or ws t 0 + c)) s 0 ≡ cost_at a b s (first_entries (k + 1) part)
        go s i (this e _) =
            rw (← e) (get_or-set_same ws t (get_or ws t 0 + c) 0 inside ∙ omega (arith, h.costs t l, rw (eq-eqb t t refl) at (more t)))
        go s i (other e d) =
            get_or-set_other ws t s (get_or ws t 0 + c) 0 (λ j. e (sym j)) ∙ omega (arith, h.costs s i, rw d at (more s))

    -- the charge would pass 64 bits, and so does the one after the whole part
    pub costs_pass : (m : ℕ) → k < m → t < n → 18446744073709551615 < charge_at xs t + get_or ws t 0 + c
        → any_passes n (charged a b (charge_at xs) (first_entries m part)) ≡ true
    costs_pass m l i p =
        one_passes n t (charged a b (charge_at xs) (first_entries m part)) i
        (omega (arith, h.costs t i, cost_most a b t part (k + 1) m (omega arith), rw (eq-eqb t t refl) at (more t)))

  pub costs_fit : (k : ℕ) (ws : List ℕ) → CostsSoFar a b n part xs k ws → any_passes n (charged a b (charge_at xs) (first_entries k part)) ≡ false
  costs_fit k ws h = none_passes n (charged a b (charge_at xs) (first_entries k part)) (λ s l. omega (arith, h.costs s l, h.fits.sums s l))
