-- What the calendar names is the lowest-numbered station of least time; and where nothing is held.
use mathlib.Core.Path.{◌≡◌, refl, sym, ◌∙◌, subst}
use mathlib.Core.Bool.{Bool, true, false, true≢false}
use mathlib.Core.Logic.{◌⊎◌, inl, inr}
use mathlib.Core.Option.{Option, none, some}
use mathlib.Core.List.{List, [], ◌∷◌}
use Prim.Native.Nat.{ℕ, ◌-◌, ◌≤◌, ◌<◌}
use native.Mathlib.Omega.{arith}
use lib.ListN.{length, take, drop, get_or-eq_default}
use Rattle.words.proofs.Cases.{lt_or}
use Rattle.std.specs.Prelude.{Result, Ok, Err}
use Rattle.refusal.specs.declared.Refusal.{Refusal}
use Rattle.refusal.specs.declared.Refusal.TheVariants.{Idle}
use Rattle.refusal.specs.Tests.{accepted, refused, or_next, judged, says}
use Rattle.refusal.specs.Numbers.{number_of}
use Rattle.line.specs.Station.{Plan}
use Rattle.rules.specs.Held.{Held, Queue, registered_from}
use Rattle.rules.specs.Engine.{Setting}
use Rattle.calendar_ring.specs.WordsRead.{words_read}
use Rattle.calendar_answers.specs.declared.Least.{Least}
use Rattle.calendar_header.specs.Rules.{none_registered, LeastAt, words_of, lowest_checks}
use Rattle.calendar_header.specs.Bytes.{state_of}
use Rattle.calendar_header.specs.Promises.{Names}
use Rattle.calendar_header.proofs.Tests.{none_some, none_false}
use Rattle.engine_events.specs.Shows.{Shows}
use Rattle.engine_events.proofs.CalendarShown.{shows_times, named_lowest, named_time, none_shows}
use Rattle.engine_index.specs.Represents.{Cell}
use Rattle.engine_events.specs.Represents.{fits_in, calendar_at, part, Calendared, Holds}
use Rattle.engine_events.specs.Promises.{Finds}
use Rattle.engine_events.proofs.Fitting.{fits_gone}
use Rattle.engine_events.proofs.CalendarPart.{part_whole}

-- ---- the station of least time

idle : (ts : List (Option ℕ)) (k : ℕ) → refused k ≡ judged (says 14 (none_registered ts) ∷ []) → none_registered ts ≡ true
unfolding judged or_next
idle ts k e = go (none_registered ts) refl e
  where
    go : (v : Bool) → none_registered ts ≡ v → refused k ≡ or_next v 14 accepted → v ≡ true
    go true p q = refl
    go false p q = let z : ◌≡◌ {A = ℕ} 0 1 = cc in absurd (omega arith)

inside : {n s t : ℕ} {ts : List (Option ℕ)} {h : List Held} → Shows n ts h → LeastAt ts s t → s < n
inside {n} {s} {t} {ts} A L = go (lt_or s n)
  where
    go : (s < n) ⊎ (n ≤ s) → s < n
    go (inl l) = l
    go (inr l) = absurd (none_some (sym (get_or-eq_default ts none (omega (arith, A.length_is))) ∙ L.has))

-- the calendar's count is that of the arity, the leaf width, the commit time and what is registered
counted : {setting : Setting} {n c now : ℕ} {xs : List ℕ} {h : List Held} → Calendared setting n c now xs h
    → words_of (state_of (part n c xs)) ≡ words_read setting.arity setting.width now (registered_from h 0 n)
counted C = rw (C.arity, C.width, C.floor, shows_times C.shows)

pub finds : (n c : ℕ) {start : ℕ} (xs : List ℕ) {r : Result Least Refusal} → start ≡ calendar_at n c → fits_in n c (length xs) ≡ true
    → Names (take (length xs - start) (drop start xs)) r → Finds n c xs r
finds n c {start} xs {r} ls fit N = go r (subst (λ (zs : List ℕ). Names zs r) (part_whole n c xs ls) N)
  where
    go : (x : Result Least Refusal) → Names (part n c xs) x → Finds n c xs x
    go (Ok a) names = record {
      unfit = λ z. absurd (true≢false (sym fit ∙ z));
      idle = tt;
      none = λ p setting now q cells H. tt;
      some = λ p setting now q cells H.
          let A = H.calendar.shows in
          let L = names.least H.calendar.sound in (
            sym (none_shows A) ∙ none_false (state_of (part n c xs)).times a.station a.time L.has,
            inside A L,
            named_lowest A L,
            named_time A L,
            names.words H.calendar.sound ∙ counted H.calendar,
          );
    }
    go (Err e) names = record {
      unfit = λ z. absurd (true≢false (sym fit ∙ z));
      idle = names.idle;
      none = λ p setting now q cells H.
          sym (none_shows H.calendar.shows) ∙ idle (state_of (part n c xs)).times (number_of e) (names.answer H.calendar.sound);
      some = λ p setting now q cells H. tt;
    }

-- ---- nothing is held: the numbers are out of range

abbrev pub Nothing : ℕ → ℕ → List ℕ → Type 0
Nothing n c xs = (p : Plan) (setting : Setting) (now : ℕ) (q : Queue) (cells : List Cell) → Holds p setting n c now xs q cells → ⊥

pub nothing_fits : (n c : ℕ) (xs : List ℕ) {r : Bool} → r ≡ fits_in n c (length xs) → r ≡ false → Nothing n c xs
nothing_fits n c xs e z p setting now q cells H = fits_gone e z H.stores

pub finds_none : (n c : ℕ) (xs : List ℕ) → Nothing n c xs → Finds n c xs (Err Idle)
finds_none n c xs N = record {
  unfit = λ _. refl;
  idle = refl;
  none = λ p setting now q cells H. absurd (N p setting now q cells H);
  some = λ p setting now q cells H. tt;
}
