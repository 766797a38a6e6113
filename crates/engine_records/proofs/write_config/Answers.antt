-- The stores are those of the definition, in its order.
use Rattle.words.specs.Le.{store_at}
use mathlib.Core.Path.{◌∙◌, ap}
use Rattle.engine_records.specs.Records.{put_config}
use Rattle.engine_records.proofs.write_config.Goals as goal

pub returns : goal.returns
unfolding put_config
returns c =
    c.store-7.ensures
    ∙ ap (store_at 4 _ _) (c.store-6.ensures
    ∙ ap (store_at 4 _ _) (c.store-5.ensures
    ∙ ap (store_at 4 _ _) (c.store-4.ensures
    ∙ ap (store_at 4 _ _) (c.store-3.ensures ∙ ap (store_at 4 _ _) (c.store-2.ensures ∙ ap (store_at 4 _ _) c.store.ensures)))))
