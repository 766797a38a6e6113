-- A calendar has at least 8192 bytes, and at most 256 stations.
use native.Mathlib.Omega.{arith}
use Rattle.calendar_cells.proofs.TableLaws.{table_sizes}
use Rattle.calendar_header.proofs.stations.Goals as goal

pub returns-then-b-lt8192 : goal.returns-then-b-lt8192
returns-then-b-lt8192 c =
    (λ S. let Z = table_sizes S.table in absurd (omega (arith, S.long, Z.low, Z.square)), omega arith)
