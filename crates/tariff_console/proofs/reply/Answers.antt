-- What is told, and its line.
use Rattle.tariff_console.proofs.reply.Goals as goal

pub returns : goal.returns
returns c = record { answer = c.tell.result; tells = c.tell.ensures; prints = c.print_tariff.ensures }
