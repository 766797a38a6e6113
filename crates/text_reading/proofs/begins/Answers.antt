-- What the library says of a word at the front, as a promise.
use Rattle.text_reading.proofs.Words.{begins_is}
use Rattle.text_reading.proofs.begins.Goals as goal

pub returns : goal.returns
returns c = begins_is _ _ _ c.starts_with.ensures.value
