-- The head of the first leaf.
use mathlib.Core.Path.{◌≡◌, refl, sym, subst}
use Prim.Native.Nat.{ℕ, ◌+◌, ◌*◌, ◌%◌, ◌<◌}
use native.Mathlib.Omega.{arith}
use borrow.Author.Rules.{rules}
use Rattle.std.specs.Prelude.{Option, Some, None, IfSome, MatchOption}
use Rattle.calendar_cells.specs.Table.{Table}
use Rattle.calendar_cells.proofs.TableLaws.{too_short, by_row}
use Rattle.calendar_lists.specs.Promises.{HeadOf}
use Rattle.calendar_buckets.specs.Promises.{First}
use Rattle.calendar_buckets.proofs.FirstStation.{match_weaker, first_head}
use Rattle.calendar_buckets.proofs.first.Goals as goal

-- where a leaf is found, its head is a station
station : (l r : Option ℕ) (P : ℕ → Type 0) → MatchOption l (r ≡ None) (λ k. IfSome r (λ h. h < 256) × P k) → IfSome r (λ h. h < 256)
station None r P e = rw e tt
station (Some k) r P h = h.0

pub returns-then-b-lt-BYTES : goal.returns-then-b-lt-BYTES
returns-then-b-lt-BYTES c = record {
  within = (tt, omega arith);
  short = λ h. (refl, refl);
  first = λ a T. absurd (too_short T c.if-b-lt-BYTES.true);
}

pub returns : goal.returns
returns c =
    let args = c.args in
    let leaf = c.first_leaf-f in
    let found : MatchOption leaf.result.at (c.and_then.result ≡ None)
    (λ l. IfSome c.and_then.result (λ h. h < 256)
    × ((a : ℕ) → l < 65792 → l < 16 * (a * a) + 256 → Table a args.b.now → HeadOf args.b.now l c.and_then.result)) =
    search (rules, match_weaker) in
    record {
      within = (station leaf.result.at c.and_then.result _ found, leaf.ensures.within.1);
      short = λ h. absurd (omega arith);
      first = λ a T.
          let e = by_row a _ _ c.word-row.ensures T in
          let T' = subst (λ (k : ℕ). Table k args.b.now) e T in
          subst (λ (k : ℕ). First k args.b.now (args.slot % 16) c.and_then.result leaf.result.words) (sym e)
          (first_head _ args.b.now T' _ _ _ _ (omega arith) (leaf.ensures.first T')
          (match_weaker leaf.result.at found (λ z. z) (λ l h. λ u v. h.1 _ u v T')));
    }
