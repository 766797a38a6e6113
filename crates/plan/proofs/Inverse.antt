-- Plans are read and written as inverses.
use Prim.Native.Nat.{ℕ, ◌≤◌}
use mathlib.Core.Path.{◌≡◌, refl, sym, ap, subst, ◌∙◌}
use mathlib.Core.List.{List, ◌++◌}
use lib.ListN.{length, take, drop, get_or}
use lib.Seq.{take_at, length-take-le}
use Rattle.std.specs.Prelude.{Result, Ok}
use Rattle.refusal.specs.declared.Refusal.{Refusal}
use Rattle.plan_format.specs.declared.Station.{Station}
use Rattle.plan_format.specs.Plan.{stations_from}
use Rattle.plan_format.specs.Reading.{reading, read_of}
use Rattle.plan_format.specs.Writing.{plan_of, no_station, writing, left}
use Rattle.plan_format.proofs.Stations.{first_at}
use Rattle.plan_format.proofs.Answers.{reading_accepted, reading_accepts}
use Rattle.plan_reading.specs.Promises.{ReadsPlan}
use Rattle.plan_writing.specs.Promises.{WritesPlan}
use Rattle.plan.specs.Inverse.{EqualRecords, EqualFirst, Inverse}
use Rattle.plan.proofs.ReadWritten.{cleared}
use Rattle.plan.proofs.WriteRead.{read_then_write}
use Rattle.plan.proofs.WrittenRead.{write_length, write_accepted, write_then_read, write_short}

-- ---- read, then written

module _ (plan : List ℕ) (n : ℕ) (list stations : List Station) (out after : List ℕ) (r : Result ℕ Refusal) (reads : ReadsPlan plan list (Ok n) stations)
    (writes : WritesPlan stations n out r after) (room : length plan ≤ length out) where
  again : (writing n stations (length out) ≡ Ok (length plan)) × (plan_of (take n stations) ≡ plan)
  again =
      rw reads.records
      (read_then_write plan n (length out) (drop n list) (reading_accepted plan (length list) n (sym reads.judges.answer)).judged_so reads.typed room)

  written_again : (r ≡ Ok (length plan)) × (after ≡ plan ++ drop (length plan) out)
  written_again =
      let e : r ≡ Ok (length plan) = writes.answer ∙ again.0 in
      (e, writes.output ∙ ap (λ (w : Result ℕ Refusal). left w (plan_of (take n stations)) out) e ∙ ap (λ (p : List ℕ). p ++ drop (length plan) out) again.1)

-- ---- written, then read

-- a record is equal to itself with zeros after its name
cleared_equal : (s : Station) → s.len ≤ length s.name → EqualRecords (cleared s) s
unfolding cleared
cleared_equal s h = record {
  numbers = refl;
  len = refl;
  name = take_at (take s.len s.name) _ s.len (length-take-le s.len s.name h);
}

module _ (stations : List Station) (n len : ℕ) (out after : List ℕ) (list again : List Station) (r : Result ℕ Refusal) (writes : WritesPlan stations n out (Ok len) after)
    (reads : ReadsPlan (take len after) list r again) (room : n ≤ length list) where
  abbrev plan : List ℕ
  plan = plan_of (take n stations)

  accepts : writing n stations (length out) ≡ Ok len
  accepts = sym writes.answer

  bytes : take len after ≡ plan
  bytes = ap (take len) writes.output ∙ take_at plan (drop len out) len (write_length n stations (length out) len accepts writes.typed)

  read_so : r ≡ Ok n
  read_so =
      reads.judges.answer ∙ ap (λ (p : List ℕ). reading p (length list)) bytes
      ∙ reading_accepts plan (length list) n (write_accepted n stations (length out) len accepts writes.typed) room

  records : again ≡ stations_from plan 0 n ++ drop n list
  records =
      reads.records ∙ ap (λ (p : List ℕ). stations_from p 0 (read_of r) ++ drop (read_of r) list) bytes
      ∙ ap (λ (a : Result ℕ Refusal). stations_from plan 0 (read_of a) ++ drop (read_of a) list) read_so

  equal : EqualFirst n again stations
  equal k h =
      let e : get_or again k no_station ≡ cleared (get_or stations k no_station) =
      ap (λ (l : List Station). get_or l k no_station) records ∙ first_at plan n (drop n list) k h
      ∙ write_then_read n stations (length out) len accepts writes.typed k h in
      subst (λ (s : Station). EqualRecords s (get_or stations k no_station)) (sym e)
      (cleared_equal (get_or stations k no_station) (write_short n stations (length out) len accepts writes.typed k h))

  read_again : (r ≡ Ok n) × EqualFirst n again stations
  read_again = (read_so, equal)

pub inverse : Inverse
inverse = record { written_again = written_again; read_again = read_again }
