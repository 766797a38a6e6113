-- What each way through the code leaves, of whatever the bytes hold.
use mathlib.Core.Path.{◌≡◌, sym, ap, ◌∙◌, subst}
use mathlib.Core.Logic.{inl, inr}
use mathlib.Core.Bool.{Bool, false, true≢false}
use mathlib.Core.List.{List}
use Prim.Native.Nat.{ℕ, ◌+◌, ◌≤◌, ◌<◌}
use native.Mathlib.Omega.{arith}
use Rattle.words.specs.Le.{load_at}
use Rattle.line.specs.declared.Event.{Event}
use Rattle.line.specs.Station.{Plan, States}
use Rattle.rules.specs.Held.{Held, ran, event, Queue}
use Rattle.rules.specs.Engine.{Setting}
use Rattle.rules.specs.Replay.{insert_sorted}
use Rattle.engine_rows.specs.Layout.{slot_row}
use Rattle.entry.specs.Entry.{event_at}
use Rattle.engine_index.specs.Layout.{slot_of}
use Rattle.engine_index.specs.Represents.{Cell, cell}
use Rattle.engine_events.specs.Represents.{Has}
use Rattle.engine_moves.specs.Promises.{HoldsEvent, UnrunsEvent, DiscardsEvent}
use Rattle.engine_rollback.specs.BetweenSteps.{Mid}
use Rattle.engine_rollback.specs.Promises.{Undoes, UndoesFrom, RemovesBelow, Removes, Adds}
use Rattle.engine_rollback.proofs.Removal.{target_inside, removed, removed_clear}
use Rattle.engine_rollback.proofs.UndoLaws.{none_waits, undone}
use Rattle.engine_rollback.proofs.LatestRun.{placed, event_of}
use Rattle.engine_rollback.proofs.Adding.{added}

-- the event that the slot of a cell's node has
at_node : {p : Plan} {setting : Setting} {n c now : ℕ} {xs : List ℕ} {q : Queue} {cells : List Cell} {ws : List Event} {st : States} (x : ℕ) (h : Held)
    → Mid p setting n c now xs q cells ws st → Has (cell x h) cells → event_at (slot_row n (slot_of n x)) xs ≡ event h
at_node {n = n} {xs = xs} x h M m = event_of n xs x h (placed M.holds.stores.stands.stored m).held

-- ---- remove_below

module _ (n c : ℕ) (xs : List ℕ) (s x : ℕ) where
  -- node 0 is no event's
  pub removes_none : {r : ℕ} {ys : List ℕ} → x ≡ 0 → RemovesBelow n c xs s x r ys
  removes_none z p setting now q cells ws st h M m f o = absurd (omega (arith, (placed M.holds.stores.stands.stored m).beyond, z))

  pub removes_lower : {e : Event} {k : ℕ} {ys zs : List ℕ} → e ≡ event_at (slot_row n (slot_of n x)) xs → UndoesFrom n c xs e.target e k ys
      → DiscardsEvent n c ys x zs → RemovesBelow n c xs s x k zs
  removes_lower {e} {k} {ys} {zs} a U L p setting now q cells ws st h M m f o =
      removed ws h M m f (subst (λ (g : Event). UndoesFrom n c xs g.target g k ys) (a ∙ at_node x h M m) U p setting now q cells (insert_sorted (event h) ws) st M) L

  pub removes_here : {e : Event} {zs : List ℕ} → e ≡ event_at (slot_row n (slot_of n x)) xs → s ≤ e.target → DiscardsEvent n c xs x zs → RemovesBelow n c xs s x 0 zs
  removes_here {e} {zs} a l L p setting now q cells ws st h M m f (inl k) =
      let t : e.target ≡ (event h).target = ap (λ (g : Event). g.target) (a ∙ at_node x h M m) in
      absurd (omega (arith, t, l, k))
  removes_here {e} {zs} a l L p setting now q cells ws st h M m f (inr k) = removed_clear ws h M m f k L

-- ---- undo

module _ (n c : ℕ) (xs : List ℕ) (x : ℕ) {e : Event} (a : e ≡ event_at (slot_row n (slot_of n x)) xs) where
  -- a held event's target is a station
  pub undoes_none : {r : ℕ} {ys : List ℕ} → n ≤ e.target → Undoes n c xs x r ys
  undoes_none l p setting now q cells ws st f b M m N =
      let t : e.target ≡ f.target = ap (λ (g : Event). g.target) (a ∙ at_node x (ran f b) M m) in
      absurd (omega (arith, t, l, (placed M.holds.stores.stands.stored m).inside))

  pub undoes_both : {k₁ k₂ r₁ r₂ : ℕ} {v : Bool} {ys zs us : List ℕ} → k₁ ≡ load_at 2 (slot_row n (slot_of n x) + 56) xs
      → k₂ ≡ load_at 2 (slot_row n (slot_of n x) + 58) xs
      → UnrunsEvent n c xs x v ys → (k₁ ≡ 0 → (r₁ ≡ 0) × (zs ≡ ys)) → RemovesBelow n c ys e.target k₁ r₁ zs
      → (k₂ ≡ 0 → (r₂ ≡ 0) × (us ≡ zs)) → RemovesBelow n c zs e.target k₂ r₂ us → Undoes n c xs x (1 + r₁ + r₂) us
  undoes_both {k₁} {k₂} {r₁} {r₂} {v} {ys} {zs} {us} a₁ a₂ U Z₁ R₁ Z₂ R₂ p setting now q cells ws st f b M m N =
      let t : e ≡ f = a ∙ at_node x (ran f b) M m in
      undone M m N a₁ a₂ (U p setting now q cells f b M.holds m N (none_waits M m N)).1 Z₁ (subst (λ (g : Event). RemovesBelow n c ys g.target k₁ r₁ zs) t R₁)
      Z₂ (subst (λ (g : Event). RemovesBelow n c zs g.target k₂ r₂ us) t R₂)

-- a held run event's node is one
pub undoes_other : (n c : ℕ) (xs : List ℕ) (x : ℕ) {r : ℕ} {v : Bool} {ys zs : List ℕ} → v ≡ false → UnrunsEvent n c xs x v ys → Undoes n c xs x r zs
undoes_other n c xs x i U p setting now q cells ws st f b M m N = absurd (true≢false (sym (U p setting now q cells f b M.holds m N (none_waits M m N)).0 ∙ i))

-- ---- remove and add

module _ (n c : ℕ) (xs : List ℕ) where
  pub removes : {x r : ℕ} {ys : List ℕ} → RemovesBelow n c xs n x r ys → Removes n c xs x r ys
  removes R p setting now q cells ws st h M m f = R p setting now q cells ws st h M m f (inl (target_inside ws h M m))

  -- there are at most 256 stations
  pub removes_else : {x r : ℕ} {ys : List ℕ} → 256 < n → Removes n c xs x r ys
  removes_else l p setting now q cells ws st h M m f = absurd (omega (arith, M.holds.stores.stands.stations, l))

  pub adds : {e : Event} {k node : ℕ} {ys zs : List ℕ} → UndoesFrom n c xs e.target e k ys → HoldsEvent n c ys e node zs → Adds n c xs e node k zs
  adds {e} U T p setting now q cells ws st M room fits inside early late N =
      added M e N room fits inside early late (U p setting now q cells ws st M) T
