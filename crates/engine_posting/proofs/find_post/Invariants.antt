-- The search: no slot passed so far holds the post; a slot that does ends it (`finds-at`), and so does the last slot (`finds-none`).
use mathlib.Core.Path.{◌≡◌}
use mathlib.Core.Bool.{false}
use Prim.Native.Nat.{ℕ, ◌<◌}
use Rattle.engine_posting.specs.Steps.{is_post_at}
use Rattle.engine_posting.proofs.find_post.Given as goal

abbrev pub invariant-loop-i : goal.invariant-loop-i
invariant-loop-i l = (k : ℕ) → k < l.i → is_post_at l.b l.n k l.number ≡ false
