-- `put_record` meets its contract: the numbers and the name, each after the last, are one run.
use Rattle.plan_writing.specs.Steps.{head_bytes, tail_bytes}
use Rattle.plan_format.specs.Writing.{record_bytes}
use Rattle.plan_writing.proofs.WriteStores.{sets_then}
use Rattle.words.proofs.Laws.{length_bytes}
use lib.Seq.{sets}
use lib.ListN.{take, length-append}
use mathlib.Core.List.{List, ◌++◌, append_assoc}
use mathlib.Core.Path.{◌≡◌, ap, ◌∙◌}
use Prim.Native.Nat.{ℕ, ◌+◌}
use Rattle.plan_writing.proofs.put_record.Goals as goal

pub returns : goal.returns
unfolding record_bytes
returns c =
    let a = c.args in
    let l = a.out.now in
    let at = a.at in
    let h = head_bytes a.s.config in
    let t = tail_bytes a.s.config in
    let n = take a.s.len a.s.name in
    let e : (h ++ t) ++ n ≡ record_bytes a.s = simp append_assoc in
    c.put_name.ensures
    ∙ ap (λ (o : List ℕ). sets o (at + 26) n) (c.put_tail.ensures ∙ ap (λ (o : List ℕ). sets o (at + 14) t) c.put_head.ensures ∙ sets_then l at (at + 14) h t (simp (length-append, length_bytes)))
    ∙ sets_then l at (at + 26) (h ++ t) n (simp (length-append, length_bytes))
    ∙ ap (sets l at) e
