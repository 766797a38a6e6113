-- The stores are those of the definition, in its order; a yes or no is stored as its number.
use mathlib.Core.Path.{◌≡◌, ◌∙◌, ap}
use mathlib.Core.Bool.{Bool}
use mathlib.Core.List.{List}
use Prim.Native.Nat.{ℕ}
use mir.Val.{bool_byte}
use Rattle.words.specs.Le.{store_at}
use Rattle.line.specs.Flag.{flag_of}
use Rattle.line.proofs.Flag.{cast_flag}
use Rattle.engine_records.specs.Records.{put_state}
use Rattle.engine_records.proofs.write_state.Goals as goal

flag_stored : (at : ℕ) (b : Bool) (xs : List ℕ) {ys : List ℕ} → ys ≡ store_at 4 at (bool_byte b) xs → ys ≡ store_at 4 at (flag_of b) xs
flag_stored at b xs h = rw (← cast_flag b) h

pub returns : goal.returns
unfolding put_state
returns c =
    flag_stored _ c.args.s.reached _ c.store-7.ensures
    ∙ ap (store_at 4 _ _) (c.store-6.ensures
    ∙ ap (store_at 8 _ _) (c.store-5.ensures
    ∙ ap (store_at 4 _ _) (c.store-4.ensures
    ∙ ap (store_at 4 _ _) (c.store-3.ensures ∙ ap (store_at 4 _ _) (c.store-2.ensures ∙ ap (store_at 4 _ _) c.store.ensures)))))
