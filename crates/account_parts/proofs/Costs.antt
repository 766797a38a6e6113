-- What entries cost: of two lists joined, and of all stations together, A for each reading and B for each frame where every target is a station.
use mathlib.Core.Path.{◌≡◌, refl, sym, ◌∙◌}
use mathlib.Core.Logic.{◌≢◌}
use mathlib.Core.Bool.{false}
use mathlib.Core.List.{List, [], ◌∷◌, ◌++◌}
use Prim.Native.Nat.{ℕ, ◌+◌, ◌*◌, ◌<◌}
use native.Mathlib.Nat.{mul-suc}
use native.Mathlib.Omega.{arith}
use borrow.Author.Tests.{eq-eqb, ne_eqb, leb-false}
use Rattle.words.specs.Sums.{sum_to}
use Rattle.words.proofs.Sums.{sum_add, sum_change, sum_zero}
use Rattle.refusal.specs.Tests.{station_out, time_late}
use Rattle.line.specs.Order.{All}
use Rattle.line.proofs.Fits.{or_false}
use Rattle.line.proofs.Order.{Which, this, other, which}
use Rattle.account_parts.specs.Part.{LogEntry, entry_out, any_entry_out}
use Rattle.account_parts.specs.Cost.{cost_of, cost_here, cost_at, of_kind, readings, frames}

pub cost_join : (a b s : ℕ) (es fs : List LogEntry) → cost_at a b s (es ++ fs) ≡ cost_at a b s es + cost_at a b s fs
unfolding cost_at
cost_join a b s [] fs = omega arith
cost_join a b s (e ∷ es) fs = omega (arith, cost_join a b s es fs)

-- an entry costs its target, and no other station
cost_target : (a b : ℕ) (e : LogEntry) → cost_here a b e.target e ≡ cost_of a b e.kind
unfolding cost_here
cost_target a b e = rw (eq-eqb e.target e.target refl)

cost_others : (a b s : ℕ) (e : LogEntry) → s ≢ e.target → cost_here a b s e ≡ 0
unfolding cost_here
cost_others a b s e k = rw (ne_eqb e.target s (λ j. k (sym j)))

sum_here : (n a b : ℕ) (e : LogEntry) → e.target < n → sum_to n (λ s. cost_here a b s e) ≡ cost_of a b e.kind
sum_here n a b e l =
    omega (arith, sum_change n (λ s. cost_here a b s e) (λ s. 0) e.target l (λ s _ k. cost_others a b s e k), sum_zero n, cost_target a b e)

-- in the counts of readings and frames
cost_counts : (a b : ℕ) (e : LogEntry) (es : List LogEntry) → a * readings (e ∷ es) + b * frames (e ∷ es) ≡ cost_of a b e.kind + (a * readings es + b * frames es)
unfolding of_kind cost_of
cost_counts a b e es = go (which e.kind 1) (which e.kind 2)
  where
    go : Which e.kind 1 → Which e.kind 2 → a * readings (e ∷ es) + b * frames (e ∷ es) ≡ cost_of a b e.kind + (a * readings es + b * frames es)
    go (this h _) (this k _) = absurd (omega (arith, h, k))
    go (this _ h) (other _ k) = rw (h, k) (omega (arith, mul-suc a (of_kind 1 es)))
    go (other _ h) (this _ k) = rw (h, k) (omega (arith, mul-suc b (of_kind 2 es)))
    go (other _ h) (other _ k) = rw (h, k) (omega arith)

no_counts : (a b : ℕ) → a * readings [] + b * frames [] ≡ 0
unfolding of_kind
no_counts a b = omega arith

pub sum_costs : (n a b : ℕ) (es : List LogEntry) → All (λ e. e.target < n) es → sum_to n (λ s. cost_at a b s es) ≡ a * readings es + b * frames es
unfolding cost_at
sum_costs n a b [] h = sum_zero n ∙ sym (no_counts a b)
sum_costs n a b (e ∷ es) h =
    omega (
      arith,
      sum_add n (λ s. cost_here a b s e) (λ s. cost_at a b s es),
      sum_here n a b e h.0,
      sum_costs n a b es h.1,
      cost_counts a b e es,
    )

-- every target of entries that 19 does not refuse is a station
pub targets_in : (n : ℕ) (es : List LogEntry) → any_entry_out n es ≡ false → All (λ e. e.target < n) es
unfolding any_entry_out entry_out
targets_in n [] h = tt
targets_in n (e ∷ es) h =
    let a = or_false (entry_out n e) (any_entry_out n es) h in
    let b = or_false (time_late e.time) _ a.0 in
    let c = or_false (station_out n e.target) _ b.1 in
    (leb-false n e.target c.0, targets_in n es a.1)
