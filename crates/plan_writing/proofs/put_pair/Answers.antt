-- `put_pair` meets its contract: two stores, one after the other, are one run.
use Rattle.plan_writing.proofs.WriteStores.{store_sets, store_then}
use Rattle.words.proofs.Laws.{length_bytes}
use Rattle.words.specs.Le.{bytes_of}
use mathlib.Core.Path.{◌∙◌}
use native.Mathlib.Omega.{arith}
use Prim.Native.Nat.{◌+◌, ◌*◌}
use Rattle.plan_writing.proofs.put_pair.Goals as goal

pub returns : goal.returns
returns c =
    let a = c.args in
    let l = a.out.now in
    let at = 2 + 8 * a.k in
    store_then l at (6 + 8 * a.k) 4 a.size (bytes_of 4 a.at)
    (c.store.ensures ∙ store_sets 4 at a.at l (omega arith))
    c.store-2.ensures (simp length_bytes (omega arith)) (omega arith)
