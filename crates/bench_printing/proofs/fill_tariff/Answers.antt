-- Yes is a word with one number; no is a word.
use mathlib.Core.Path.{sym, ap}
use Rattle.bench_command.specs.TariffLine.{tariff_line}
use Rattle.text_writing.proofs.Appending.{read_as}
use Rattle.bench_printing.proofs.fill_tariff.Goals as goal

pub returns-in-Some : goal.returns-in-Some
unfolding tariff_line
returns-in-Some c = read_as (ap tariff_line (sym c.in-Some.is)) c.fill_line.ensures

pub returns-in-None : goal.returns-in-None
unfolding tariff_line
returns-in-None c = read_as (ap tariff_line (sym c.in-None.is)) c.append_word.ensures
