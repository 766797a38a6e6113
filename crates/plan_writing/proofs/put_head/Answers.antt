-- `put_head` meets its contract: four stores, each after the last, are one run.
use Rattle.plan_writing.specs.Steps.{head_bytes}
use Rattle.plan_writing.proofs.WriteStores.{store_sets, store_then}
use Rattle.words.proofs.Laws.{length_bytes}
use Rattle.words.specs.Le.{bytes_of}
use lib.Seq.{sets}
use lib.ListN.{length-append}
use mathlib.Core.List.{◌++◌, append_assoc}
use mathlib.Core.Path.{◌≡◌, ap, ◌∙◌}
use native.Mathlib.Omega.{arith}
use Prim.Native.Nat.{◌+◌}
use Rattle.plan_writing.proofs.put_head.Goals as goal

pub returns : goal.returns
returns c =
    let a = c.args in
    let l = a.out.now in
    let at = a.at in
    let v = a.c in
    let p₁ = bytes_of 2 v.parent in
    let p₂ = p₁ ++ bytes_of 4 v.calm in
    let p₃ = p₂ ++ bytes_of 4 v.spring in
    let e : p₃ ++ bytes_of 4 v.threshold ≡ head_bytes v = simp append_assoc in
    store_then l at (at + 10) 4 v.threshold p₃
    (store_then l at (at + 6) 4 v.spring p₂
    (store_then l at (at + 2) 4 v.calm p₁
    (c.store.ensures ∙ store_sets 2 at v.parent l (omega arith))
    c.store-2.ensures (simp length_bytes) (omega arith))
    c.store-3.ensures (simp (length-append, length_bytes)) (omega arith))
    c.store-4.ensures (simp (length-append, length_bytes)) (omega arith)
    ∙ ap (sets l at) e
