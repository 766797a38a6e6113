-- The station's word is cleared, its neighbours are joined, and the bits above its bucket are lowered.
use mathlib.Core.Path.{ap, ◌∙◌}
use Prim.Native.Nat.{ℕ, ◌/◌}
use native.Mathlib.Numerals.{add-one}
use Rattle.calendar_cells.specs.Cells.{back_at}
use Rattle.calendar_cells.specs.Table.{bucket_of}
use Rattle.calendar_buckets.proofs.Takes.{take_kept, taken_out}
use Rattle.calendar_buckets.proofs.unlink.Goals as goal

pub returns : goal.returns
unfolding bucket_of
returns c =
    let pre = c.requires in
    let args = c.args in
    let back = c.back-p in
    let link = c.link-n in
    let word = c.word in
    let set_word = c.set_word in
    let join = c.join in
    let lower = c.lower in record {
      kept = take_kept _ _ 0 _ _ _ _ _ _ _ set_word.ensures join.ensures.joined lower.ensures.lowered;
      gone = λ T r.
          taken_out _ _ _ _ _ T _ _ _ _ (pre) r (back.ensures ∙ ap (λ (m : ℕ). back_at m args.b.now) (add-one args.s)) link.ensures
          (ap (λ (w : ℕ). w / 2199023255552) word.ensures) set_word.ensures join.ensures.joined lower.ensures.lowered;
    }
