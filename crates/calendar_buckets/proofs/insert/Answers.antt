-- The station is joined in after the place that was found, and the bits above its bucket are raised.
use mathlib.Core.Path.{subst}
use Prim.Native.Nat.{ℕ}
use native.Mathlib.Omega.{arith}
use native.Mathlib.Numerals.{add-one}
use Rattle.calendar_lists.specs.Promises.{Joined}
use Rattle.calendar_buckets.proofs.Puts.{put_kept, put_in}
use Rattle.calendar_buckets.proofs.insert.Goals as goal

pub returns : goal.returns
returns c =
    let args = c.args in
    let pre = c.requires in
    let find = c.find-p in
    let link = c.link-n in
    let set_word = c.set_word in
    let join = c.join in
    let join2 = c.join-2 in
    let raise = c.raise in
    let K = subst (λ (m : ℕ). Joined find.result m join.new.b join2.new.b) (add-one args.s) join2.ensures.joined in record {
      kept = put_kept _ _ _ _ _ _ _ _ _ _ _ pre.0 set_word.ensures join.ensures.joined K raise.ensures.raised;
      placed = λ T e.
          put_in _ _ _ _ _ _ _ _ _ _ _ pre.0 set_word.ensures join.ensures.joined K raise.ensures.raised T e pre.1 pre.2 pre.3 pre.4
          (find.ensures.place _ pre.5 pre.3 (omega (arith, pre.1)) T.lists) link.ensures;
    }
