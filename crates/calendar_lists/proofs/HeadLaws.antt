-- What `head` answers.
use mathlib.Core.Path.{◌≡◌, sym, ap, ◌∙◌, subst}
use mathlib.Core.List.{List}
use Prim.Native.Nat.{ℕ, suc, ◌+◌, ◌*◌, ◌≤◌, ◌<◌}
use native.Mathlib.Omega.{arith}
use Rattle.calendar_cells.specs.Lists.{rank_of}
use Rattle.calendar_cells.specs.Table.{due_of, bucket_head, Table}
use Rattle.calendar_lists.specs.Promises.{Heads}
use Rattle.calendar_cells.proofs.Heads.{head_station, head_below}

pub head_of : (a : ℕ) (xs : List ℕ) → Table a xs → (l h : ℕ) → l < 16 * (a * a) + 256 → bucket_head xs l ≡ suc h → Heads xs l h
head_of a xs T l h ll e = record {
  is = e;
  station = head_station a xs T l h ll e;
  least = λ x lx d b.
      let H = head_below a xs T x lx d in
      let k : suc H.0 ≡ suc h = sym H.1 ∙ ap (bucket_head xs) b ∙ e in
      let m : H.0 ≡ h = omega arith in
      subst (λ (y : ℕ). rank_of (due_of xs) y ≤ rank_of (due_of xs) x) m H.2;
}
