-- Hour by hour: each run to an hour's end is done, and the collector's record then goes into the table.
use mathlib.Core.Path.{◌≡◌, refl, sym, ap, ◌∙◌, subst}
use mathlib.Core.Logic.{◌≢◌}
use mathlib.Core.List.{List, [], ◌∷◌, ◌++◌}
use Prim.Native.Nat.{ℕ, ◌+◌, ◌*◌, ◌≤◌, ◌<◌}
use Rattle.std.specs.Prelude.{Result, Ok, Err}
use native.Mathlib.Omega.{arith}
use lib.ListN.{length, get_or, set, length-set}
use lib.Seq.{get_or-set_same, get_or-set_other}
use Rattle.line.specs.declared.Event.{Event}
use Rattle.line.specs.declared.State.{State}
use Rattle.line.proofs.Order.{Which, this, other, which}
use Rattle.refusal.specs.declared.Refusal.{Refusal}
use Rattle.rules.specs.Engine.{Call, Record, Recorded}
use Rattle.rules.specs.Demand.{Made, fed}
use Rattle.plan_format.specs.Line.{line_of}
use Rattle.engine_answers.specs.declared.UntilError.{UntilError}
use Rattle.engine_promises.specs.Answers.{record_said}
use Rattle.engine_promises.specs.Promises.{Answered}
use Rattle.engine_until.specs.Promises.{Works, none, Reaches, RunsUntil}
use Rattle.engine_until.proofs.Joins.{works_join, reach_join}
use Rattle.figure.specs.Figure.{StandsAt}
use Rattle.figure.proofs.Fed.{works_chain, chain_join, works_feed_nothing}
use Rattle.figure.proofs.Figure.{figure}
use Rattle.scenario.specs.Scenario.{numbered}
use Rattle.quoting.specs.Promises.{HourIs}
use Rattle.quoting.specs.Steps.{Notes, RunsHour, Begun, HoursAre, RunsHours}
use Rattle.quoting.proofs.PostsFed.{posts_made, posts_feed}

-- ---- the table

module _ (hour : ℕ) (ts : List ℕ) {ys : List ℕ} (r : Result State Refusal) (A : Answered (Record 0) (record_said r) ys ys) (size : 2 * hour + 1 < length ts) where
  pub noted : {s : State} → r ≡ Ok s → Notes hour ys ts (set (set ts (2 * hour) s.heard) (2 * hour + 1) s.lost)
  noted {s} e = record {
    room = size;
    table = λ st f.
        let q : Recorded s ≡ Recorded st = ap record_said (sym e) ∙ f r A in
        let k : s ≡ st = cc in
        ap (λ (x : State). set (set ts (2 * hour) x.heard) (2 * hour + 1) x.lost) k;
  }

  pub unnoted : {e : Refusal} → r ≡ Err e → Notes hour ys ts ts
  unnoted {e} w = record {
    room = size;
    table = λ st f.
        let q = ap record_said (sym w) ∙ f r A in
        let z : ◌≡◌ {A = ℕ} 0 1 = cc in
        absurd (omega arith);
  }

-- ---- one hour more

module _ {h : ℕ} {xs os ys ps ts zs qs us : List ℕ} {calls : List Made} (w : Works xs os calls ys ps) (before : HoursAre h xs ys ts) (R : RunsHour h ys ps ts (Ok tt) zs qs us)
  where
    size : 2 * h + 1 < length ts
    size = (R.notes refl).room

    module _ (plan : List ℕ) (cs : List Call) (B : Begun plan cs xs) where
      now_stands : StandsAt plan (3600000 * (h + 1)) (numbered (line_of plan) 0 cs) zs
      now_stands =
          let d = posts_made B.posted in
          let o = B.opening in
          let f : fed (line_of plan) (d.calls ++ calls) ≡ numbered (line_of plan) 0 cs =
          works_feed_nothing (line_of plan) d.calls calls w ∙ posts_feed d (line_of plan) in
          subst (λ (e : List Event). StandsAt plan (3600000 * (h + 1)) e zs) f
          (figure plan 16 o.width 4096 (3600000 * (h + 1)) 18446744073709551615 B.before B.opened ys zs ps qs (d.calls ++ calls) o.opens (chain_join d.chain (works_chain w)) R.until)

      collector : 0 < (line_of plan).count
      collector = let s = (B.opening.opens.opens refl).range.some in omega (arith, s)

      table_is : us ≡ set (set ts (2 * h) (now_stands.machine.states 0).heard) (2 * h + 1) (now_stands.machine.states 0).lost
      table_is = (R.notes refl).table (now_stands.machine.states 0) (now_stands.records 0 collector)

      other_hours : (i : ℕ) → i ≢ 2 * h → i ≢ 2 * h + 1 → get_or us i 0 ≡ get_or ts i 0
      other_hours i n m =
          ap (λ l. get_or l i 0) table_is
          ∙ get_or-set_other (set ts (2 * h) (now_stands.machine.states 0).heard) (2 * h + 1) i (now_stands.machine.states 0).lost 0 m
          ∙ get_or-set_other ts (2 * h) i (now_stands.machine.states 0).heard 0 n

      this_hour : HourIs plan (numbered (line_of plan) 0 cs) us h
      this_hour = record {
        machine = now_stands.machine;
        runs = now_stands.runs;
        one = now_stands.one;
        heard =
            ap (λ l. get_or l (2 * h) 0) table_is
            ∙ get_or-set_other (set ts (2 * h) (now_stands.machine.states 0).heard) (2 * h + 1) (2 * h) (now_stands.machine.states 0).lost 0 (λ e. absurd (omega (arith, e)))
            ∙ get_or-set_same ts (2 * h) (now_stands.machine.states 0).heard 0 (omega (arith, size));
        lost =
            ap (λ l. get_or l (2 * h + 1) 0) table_is
            ∙ get_or-set_same (set ts (2 * h) (now_stands.machine.states 0).heard) (2 * h + 1) (now_stands.machine.states 0).lost 0
            (subst (λ (n : ℕ). 2 * h + 1 < n) (sym (length-set ts (2 * h) (now_stands.machine.states 0).heard)) size);
      }

      each_hour : (k : ℕ) → k < h + 1 → HourIs plan (numbered (line_of plan) 0 cs) us k
      each_hour k l = go (which k h)
        where
          go : Which k h → HourIs plan (numbered (line_of plan) 0 cs) us k
          go (this e _) = subst (HourIs plan (numbered (line_of plan) 0 cs) us) (sym e) this_hour
          go (other n _) =
              let b = before.hours plan cs B k (omega (arith, l, n)) in
              record {
                machine = b.machine;
                runs = b.runs;
                one = b.one;
                heard = other_hours (2 * k) (λ e. n (omega (arith, e))) (λ e. absurd (omega (arith, e))) ∙ b.heard;
                lost = other_hours (2 * k + 1) (λ e. absurd (omega (arith, e))) (λ e. n (omega (arith, e))) ∙ b.lost;
              }

    pub hour_more : HoursAre (h + 1) xs zs us
    hour_more = record { stands = λ plan cs B l. now_stands plan cs B; hours = λ plan cs B k l. each_hour plan cs B k l }

-- ---- all hours

-- the first h hours are run
pub record HoursRun (h : ℕ) (xs os ys ps ts : List ℕ) : Type 0 where
  pub calls : List Made
  pub works : Works xs os calls ys ps
  pub reached : 1 ≤ h → Reaches (3600000 * h) calls
  pub are : HoursAre h xs ys ts

pub none_run : {xs os ts : List ℕ} → HoursRun 0 xs os xs os ts
none_run = record {
  calls = [];
  works = none;
  reached = λ l. absurd (omega (arith, l));
  are = record { stands = λ plan cs B l. absurd (omega (arith, l)); hours = λ plan cs B k l. absurd (omega (arith, l)) };
}

module _ {h : ℕ} {xs os ys ps ts zs qs us : List ℕ} {r : Result Unit UntilError} (H : HoursRun h xs os ys ps ts) (R : RunsHour h ys ps ts r zs qs us) where
  pub one_run : r ≡ Ok tt → HoursRun (h + 1) xs os zs qs us
  one_run e =
      let D = subst (λ a. RunsHour h ys ps ts a zs qs us) e R in
      record {
        calls = H.calls ++ D.until.calls;
        works = works_join H.works D.until.works;
        reached = λ _. reach_join H.calls D.until.calls (D.until.done refl);
        are = hour_more H.works H.are D;
      }

  pub not_run : {hours : ℕ} {u : UntilError} → h < hours → r ≡ Err u → RunsHours hours xs os (Err u) zs qs us
  not_run {hours} {u} l n = record {
    done = λ e. cc;
    stopped = λ v e.
        let b : u ≡ v = cc in
        record {
          hour = h;
          within = l;
          calls = H.calls;
          before = ys;
          output = ps;
          works = H.works;
          reached = H.reached;
          until = subst (λ a. RunsUntil (3600000 * (h + 1)) 18446744073709551615 ys ps a zs qs) (n ∙ ap Err b) R.until;
        };
  }

pub all_run : {h hours : ℕ} {xs os ys ps ts : List ℕ} → h ≡ hours → HoursRun h xs os ys ps ts → RunsHours hours xs os (Ok tt) ys ps ts
all_run {h} {hours} {xs} {os} {ys} {ps} {ts} e H = record { done = λ _. subst (λ (n : ℕ). HoursAre n xs ys ts) e H.are; stopped = λ u n. cc }
