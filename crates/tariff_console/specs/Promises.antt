-- What the star tariff's program says of a plan and a line (document 02, change 14).
use Rattle.std.specs.Prelude.{◌≡◌, List, ℕ, Option, None}
use Rattle.text.specs.Decimal.{decimal, Fits}
use Rattle.bench_command.specs.TariffLine.{tariff_line}
use Rattle.bench_printing.specs.Promises.{Prints}
use Rattle.tariff.specs.Tariff.{tariff_of}

-- of the line that is c in decimal the tariff; no "for a c that isn't a number by the bench program's rule"
pub record TellsTariff (plan line : List ℕ) (r : Option ℕ) : Type 0 where
  pub number : (c : ℕ) → Fits c → line ≡ decimal c → r ≡ tariff_of plan c
  pub other : ((c : ℕ) → Fits c → line ≡ decimal c → ⊥) → r ≡ None

-- and its line, at the front of a text that has room for every line
pub record RepliesTariff (plan line text : List ℕ) (r : ℕ) (after : List ℕ) : Type 0 where
  pub answer : Option ℕ
  pub tells : TellsTariff plan line answer
  pub prints : Prints (tariff_line answer) 0 text r after
