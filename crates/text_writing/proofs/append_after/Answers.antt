-- A space, then the number.
use Rattle.text_writing.proofs.Appending.{appends_join}
use Rattle.text_writing.proofs.append_after.Goals as goal

pub returns : goal.returns
returns c = appends_join c.append_byte-a.ensures c.append_number.ensures
