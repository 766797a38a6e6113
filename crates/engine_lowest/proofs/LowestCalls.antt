-- What run lowest and next find in the bytes: how run lowest is judged, what it passes on of its station's run, and what next tells.
use mathlib.Core.Path.{◌≡◌, refl, sym, ap, ◌∙◌, subst}
use mathlib.Core.Bool.{Bool, false}
use mathlib.Core.List.{List}
use Prim.Native.Nat.{ℕ, ◌<◌}
use lib.ListN.{length}
use native.Mathlib.Omega.{arith}
use Rattle.std.specs.Prelude.{Result, Ok, Err}
use Rattle.words.specs.Le.{load_at}
use Rattle.refusal.specs.declared.Refusal.{Refusal}
use Rattle.refusal.specs.declared.Refusal.TheVariants.{Idle}
use Rattle.refusal.specs.Numbers.{number_of}
use Rattle.refusal.specs.Tests.{Verdict}
use Rattle.calendar_answers.specs.declared.Least.{Least}
use Rattle.line.specs.Station.{Plan}
use Rattle.rules.specs.Held.{Lowest}
use Rattle.rules.specs.Engine.{Engine, RunStation, RunLowest, Refused, Ran, RanLowest}
use Rattle.rules.specs.Calls.{Answers, run, lowest, lowest_refused, lowest_words}
use Rattle.engine_events.specs.Represents.{fits_in}
use Rattle.engine_events.specs.Promises.{Finds}
use Rattle.engine_answers.specs.declared.RunAnswer.{RunAnswer}
use Rattle.engine_answers.specs.declared.NextAnswer.{NextAnswer}
use Rattle.engine_promises.specs.Represents.{Represents}
use Rattle.engine_promises.specs.Promises.{Answered, TellsNext}
use Rattle.engine_promises.specs.Steps.{at_most, JudgesCall}
use Rattle.engine_running.specs.Promises.{RunsAt}
use Rattle.engine_lowest.specs.declared.LowestRun.{LowestRun}
use Rattle.engine_lowest.specs.Steps.{JudgesLowest}
use Rattle.engine_promises.proofs.Header.{unfit, fits_read}
use Rattle.engine_promises.proofs.Refused.{judges_refusal}
use Rattle.engine_promises.proofs.PostRunChecks.{lowest_14, lowest_accepted}

-- ---- judging

-- no engine stands for bytes that are too few
pub unfit_next : {n c : ℕ} {xs : List ℕ} {a : Result NextAnswer Refusal} {r : Bool} → n ≡ at_most 256 (load_at 8 0 xs) → c ≡ at_most 4096 (load_at 8 8 xs)
    → r ≡ fits_in n c (length xs) → r ≡ false → TellsNext xs a
unfit_next S K f z = record { told = λ p e R. absurd (unfit S K f z R) }

module _ {n c : ℕ} {xs : List ℕ} (S : n ≡ at_most 256 (load_at 8 0 xs)) (K : c ≡ at_most 4096 (load_at 8 8 xs)) where
  finds : {r : Result Least Refusal} → Finds n c xs r → {p : Plan} {e : Engine} → Represents p e xs → Finds p.count e.setting.capacity xs r
  finds F {p} {e} R =
      let a = (fits_read R S K).0 in
      let b = (fits_read R S K).1 in
      rw (a, b) F

  module _ {d : Refusal} (F : Finds n c xs (Err d)) where
    pub none_lowest : JudgesLowest xs (Err d)
    none_lowest =
        let q : d ≡ Idle = F.idle in
        rw q (judges_refusal RunLowest Idle (record { says = λ p e R. lowest_14 p e ((finds F R).none p e.setting e.now e.queue R.cells R.holds) }))

    pub none_next : TellsNext xs (Err d)
    none_next = record { told = λ p e R. (F.idle, (finds F R).none p e.setting e.now e.queue R.cells R.holds) }

  module _ {a : Least} (F : Finds n c xs (Ok a)) where
    -- the calendar's station is one of the line
    pub far_lowest : {v : Verdict} → 65535 < a.station → JudgesCall RunLowest v xs
    far_lowest h = record {
      says = λ p e R.
          let most = R.holds.stores.stands.stations in
          absurd (omega (arith, ((finds F R).some p e.setting e.now e.queue R.cells R.holds).1));
    }

    names : {p : Plan} {e : Engine} → Represents p e xs → Lowest e.queue.held a.station
    names {p} {e} R = ((finds F R).some p e.setting e.now e.queue R.cells R.holds).2

    counts : {p : Plan} {e : Engine} → Represents p e xs → a.words ≡ lowest_words p e
    unfolding lowest_words
    counts {p} {e} R = ((finds F R).some p e.setting e.now e.queue R.cells R.holds).4

    pub lowest_judged : JudgesLowest xs (Ok (record { n = n; c = c; station = a.station; words = a.words }))
    lowest_judged = record {
      number = record { says = λ p e R. lowest_accepted p e a.station (names R) };
      found = λ f q.
          let y : ◌≡◌ {A = LowestRun} (record { n = n; c = c; station = a.station; words = a.words }) f = cc in
          rw (← y) (record { numbers = λ p e R. let k = fits_read R S K in (k.0, k.1); lowest = λ p e R. names R; words = λ p e R. counts R });
    }

    pub next_told : TellsNext xs (Ok (record { station = a.station; time = a.time }))
    next_told = record {
      told = λ p e R.
          let g = (finds F R).some p e.setting e.now e.queue R.cells R.holds in
          (g.2, g.3);
    }

-- ---- judged, then run

-- a station's run answers that station
ran_at : {p : Plan} {e f : Engine} {s t u : ℕ} → Answers p e (RunStation s) (Ran t u) f → t ≡ s
ran_at (run j k d) = refl

module _ {xs ys : List ℕ} {f : LowestRun} (J : JudgesLowest xs (Ok f)) where
  pub run_refused : {r : Refusal} → RunsAt f.n f.c f.station (Err r) xs ys → Answered RunLowest (Refused (number_of r)) xs ys
  run_refused A = record {
    refusal = A.refusal;
    answer = λ p e R.
        let I = J.found f refl in
        let m = I.numbers p e R in
        let B = A.answer p e R m.0 m.1 in
        record { after = B.after; answers = lowest_refused (I.lowest p e R) B.answers; represents = B.represents };
  }

  pub run_done : {a : RunAnswer} → RunsAt f.n f.c f.station (Ok a) xs ys → Answered RunLowest (RanLowest a.station a.undone f.words) xs ys
  run_done {a} A = record {
    refusal = λ k z. let y : ◌≡◌ {A = ℕ} 0 1 = cc in absurd (omega arith);
    answer = λ p e R.
        let I = J.found f refl in
        let m = I.numbers p e R in
        let B = A.answer p e R m.0 m.1 in
        let h = ran_at B.answers in
        let d = subst (λ x. Answers p e (RunStation f.station) (Ran x a.undone) B.after) h B.answers in
        let k : RanLowest f.station a.undone (lowest_words p e) ≡ RanLowest a.station a.undone f.words =
        ap (λ x. RanLowest x a.undone (lowest_words p e)) (sym h) ∙ ap (RanLowest a.station a.undone) (sym (I.words p e R)) in
        let ran = subst (λ x. Answers p e RunLowest x B.after) k (lowest (I.lowest p e R) d) in
        record { after = B.after; answers = ran; represents = B.represents };
  }
