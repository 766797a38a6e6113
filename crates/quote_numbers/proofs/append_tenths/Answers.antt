-- The whole, the point, the tenth.
use Rattle.text_writing.proofs.Appending.{appends_join}
use Rattle.quote_numbers.specs.Tenths.{tenths}
use Rattle.quote_numbers.proofs.append_tenths.Goals as goal

pub returns : goal.returns
unfolding tenths
returns c =
    appends_join c.append_number-a.ensures
    (appends_join c.append_byte-c.ensures c.append_number.ensures)
