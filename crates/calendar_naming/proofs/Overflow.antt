-- The search of the overflow table: after each turn the best is the nearest of the stations passed.
use mathlib.Core.Path.{◌≡◌, sym, ◌∙◌, subst}
use mathlib.Core.Logic.{◌⊎◌, inl, inr}
use mathlib.Core.List.{List}
use Prim.Native.Nat.{ℕ, ◌+◌, ◌*◌, ◌≤◌, ◌<◌}
use native.Mathlib.Nat.{le_refl}
use native.Mathlib.Omega.{arith}
use Rattle.std.specs.Prelude.{Option, Some, None, IfSome}
use Rattle.calendar_cells.specs.Lists.{rank_of}
use Rattle.calendar_cells.specs.Table.{due_of, Waits}
use Rattle.calendar_search.specs.Promises.{NoneTo}
use Rattle.words.proofs.Cases.{eq_or, lt_or}
use Rattle.calendar_cells.proofs.Places.{rank_station}
use Rattle.calendar_naming.specs.Steps.{Nearest, Nearer}

module _ (a : ℕ) (xs : List ℕ) (from : ℕ) where
  -- nothing waits from there on
  pub nearest_none : (best : Option ℕ) → Nearest a xs from best → NoneTo a xs from 256 → Nearest a xs 256 best
  nearest_none None N L = λ x lx _ W. go x lx W (lt_or x from)
    where
      go : (x : ℕ) → x < 256 → Waits a xs x → (x < from) ⊎ (from ≤ x) → ⊥
      go x lx W (inl k) = N x lx k W
      go x lx W (inr k) = L x k lx lx W
  nearest_none (Some h) N L = (N.0, N.1, λ x lx _ W. go x lx W (lt_or x from))
    where
      go : (x : ℕ) → x < 256 → Waits a xs x → (x < from) ⊎ (from ≤ x) → rank_of (due_of xs) h ≤ rank_of (due_of xs) x
      go x lx W (inl k) = N.2 x lx k W
      go x lx W (inr k) = absurd (L x k lx lx W)

  module _ (s : ℕ) (ls : s < 256) (V : Waits a xs s) (L : NoneTo a xs from s) where
    -- the stations below s + 1 that wait are those below `from`, and s
    passed : (x : ℕ) → x < 256 → x < s + 1 → Waits a xs x → (x < from) ⊎ (x ≡ s)
    passed x lx l W = go (lt_or x from) (eq_or x s)
      where
        go : (x < from) ⊎ (from ≤ x) → (x ≡ s) ⊎ (x ≡ s → ⊥) → (x < from) ⊎ (x ≡ s)
        go (inl k) q = inl k
        go (inr k) (inl q) = inr q
        go (inr k) (inr q) = absurd (L x k lx (omega arith) W)

    -- s is the nearest where no station passed is due as early
    this : ((x : ℕ) → x < 256 → x < from → Waits a xs x → rank_of (due_of xs) s ≤ rank_of (due_of xs) x) → Nearest a xs (s + 1) (Some s)
    this before = (ls, V, λ x lx l W. go x lx W (passed x lx l W))
      where
        go : (x : ℕ) → x < 256 → Waits a xs x → (x < from) ⊎ (x ≡ s) → rank_of (due_of xs) s ≤ rank_of (due_of xs) x
        go x lx W (inl k) = before x lx k W
        go x lx W (inr q) = subst (λ (y : ℕ). rank_of (due_of xs) s ≤ rank_of (due_of xs) y) (sym q) (le_refl (rank_of (due_of xs) s))

    pub nearest_step : (best : Option ℕ) (r : ℕ) → IfSome best (λ h. h < from) → from ≤ s → Nearest a xs from best → Nearer xs best s r
        → Nearest a xs (s + 1) (Some r)
    nearest_step None r _ _ N M = rw M (this (λ x lx k W. absurd (N x lx k W)))
    nearest_step (Some h) r lb up N M = go (lt_or (due_of xs s) (due_of xs h))
      where
        d : rank_of (due_of xs) h ≡ due_of xs h * 256 + h
        d = rank_station (due_of xs) h N.0

        c : rank_of (due_of xs) s ≡ due_of xs s * 256 + s
        c = rank_station (due_of xs) s ls

        go : (due_of xs s < due_of xs h) ⊎ (due_of xs h ≤ due_of xs s) → Nearest a xs (s + 1) (Some r)
        go (inl l) = rw (M.0 l) (this (λ x lx k W. omega (arith, N.2 x lx k W, d, c)))
        go (inr l) = rw (M.1 l) (N.0, N.1, λ x lx k W. side x lx W (passed x lx k W))
          where
            side : (x : ℕ) → x < 256 → Waits a xs x → (x < from) ⊎ (x ≡ s) → rank_of (due_of xs) h ≤ rank_of (due_of xs) x
            side x lx W (inl k) = N.2 x lx k W
            side x lx W (inr q) = subst (λ (y : ℕ). rank_of (due_of xs) h ≤ rank_of (due_of xs) y) (sym q) (omega (arith, d, c))

-- the nearer is not beyond the stations passed
pub nearer_within : (xs : List ℕ) (from : ℕ) (best : Option ℕ) (s r : ℕ) → IfSome best (λ h. h < from) → from ≤ s → Nearer xs best s r → r ≤ s
nearer_within xs from None s r b f N = omega (arith, N)
nearer_within xs from (Some h) s r b f N = go (lt_or (due_of xs s) (due_of xs h))
  where
    go : (due_of xs s < due_of xs h) ⊎ (due_of xs h ≤ due_of xs s) → r ≤ s
    go (inl l) = omega (arith, N.0 l)
    go (inr l) = omega (arith, N.1 l)

pub best_within : (best : Option ℕ) (from : ℕ) → IfSome best (λ h. h < from) → from ≤ 256 → IfSome best (λ h. h < 256)
best_within None from l k = tt
best_within (Some h) from l k = omega arith
