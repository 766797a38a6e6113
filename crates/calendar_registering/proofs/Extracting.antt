-- What extract answers on a calendar's bytes, and what it leaves.
use mathlib.Core.Path.{◌≡◌, refl, ap, ◌∙◌}
use mathlib.Core.List.{List}
use Prim.Native.Nat.{ℕ, suc, ◌<◌}
use native.Mathlib.Omega.{arith}
use Rattle.refusal.specs.declared.Refusal.{Refusal}
use Rattle.calendar_cells.specs.Table.{arity_of, due_of, Table}
use Rattle.calendar_buckets.specs.Promises.{Kept, Gone}
use Rattle.std.specs.Prelude.{Ok, Err}
use Rattle.calendar_answers.specs.declared.Least.{Least}
use Rattle.calendar_header.specs.Rules.{unregistered}
use Rattle.calendar_header.specs.Bytes.{count_of, Sound, time_for, state_of}
use Rattle.calendar_header.specs.Promises.{Names, Extracts}
use Rattle.calendar_registering.specs.Steps.{Entered}
use Rattle.calendar_header.proofs.Homes.{sound_of}
use Rattle.calendar_header.proofs.States.{time_of}
use Rattle.calendar_registering.proofs.Entering.{state_entered, entered_gone}

pub extract_none : (xs : List ℕ) (e : Refusal) → Names xs (Err e) → Extracts xs (Err e) xs
extract_none xs e N = record { refusal = refl; names = N; state = λ S. tt; sound = λ S. S }

pub extract_at : (xs ys : List ℕ) (a : Least) → Names xs (Ok a) → Kept xs ys → ((n : ℕ) → Table n xs → a.station < 256 → Gone n a.station xs ys) → Extracts xs (Ok a) ys
unfolding time_for
extract_at xs ys a N K G = record {
  refusal = tt;
  names = N;
  state = λ S. state_entered xs ys S a.station 0 (named S).0 (gone S);
  sound = λ S. sound_of (gone S).sound;
}
  where
    named : Sound xs → (a.station < count_of xs) × (a.station < 256) × (due_of xs a.station ≡ suc a.time)
    named S = time_of xs S a.station a.time (N.least S).has

    gone : Sound xs → Entered (arity_of xs) a.station 0 xs ys
    gone S = entered_gone xs ys S K a.station (G (arity_of xs) S.table (named S).1)
