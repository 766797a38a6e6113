-- The event is added, and the word of the next number is stored (`added-post`).
use native.Mathlib.Omega.{arith}
use Rattle.engine_posting.proofs.Posting.{added_post}
use Rattle.engine_posting.proofs.add_post.Goals as goal

pub returns : goal.returns
returns c = added_post c.add-added.ensures.frame c.add-added.ensures.adds (c.set_header.ensures.0 (omega arith))
