-- The stores are those of the definition, in its order.
use Prim.Native.Nat.{◌+◌}
use Rattle.words.specs.Le.{store_at}
use mathlib.Core.Path.{◌∙◌, ap}
use Rattle.entry.specs.Entry.{put_event}
use Rattle.entry.proofs.write.Goals as goal

pub returns : goal.returns
unfolding put_event
returns c =
    let at = c.args.at in
    let one = c.store-2.ensures ∙ ap (store_at 4 _ _) c.store.ensures in
    let two = c.store-3.ensures ∙ (λ i. store_at 4 (at + 12) (c.value_of.ensures i) (one i)) in
    let three = c.store-5.ensures ∙ ap (store_at 2 _ _) (c.store-4.ensures ∙ ap (store_at 2 _ _) two) in
    c.store-6.ensures ∙ (λ i. store_at 4 (at + 20) (c.kind_of.ensures i) (three i))
