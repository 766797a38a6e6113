-- From the set-up and the hours to the quote.
use mathlib.Core.Path.{◌≡◌, refl, ap, ◌∙◌, subst}
use mathlib.Core.List.{List, [], ◌∷◌}
use Prim.Native.Nat.{ℕ, ◌*◌, ◌≤◌, ◌<◌}
use native.Mathlib.Omega.{arith}
use lib.ListN.{length}
use Rattle.refusal.specs.declared.Refusal.{Refusal}
use Rattle.std.specs.Prelude.{Result, Ok, Err}
use Rattle.engine_answers.specs.declared.UntilError.{UntilError}
use Rattle.figure.specs.Figure.{StandsAt}
use Rattle.plan_format.specs.Line.{line_of}
use Rattle.scenario.specs.declared.Order.{Order}
use Rattle.scenario.specs.declared.Order.TheVariants.{Days, Read, Level}
use Rattle.scenario.specs.Scenario.{AllFit, days_from, scenario_calls, scenario_events}
use Rattle.quote_setup.specs.declared.SetUpError.{SetUpError}
use Rattle.quote_setup.specs.declared.SetUpError.TheVariants as A
use Rattle.quote_setup.specs.Promises.{OpensQuote, IsReady, SetsUp}
use Rattle.quoting.specs.declared.QuoteError.{QuoteError}
use Rattle.quoting.specs.declared.QuoteError.TheVariants as Q
use Rattle.quoting.specs.Promises.{Quoted, StoppedAt, Quotes}
use Rattle.quoting.specs.Steps.{Begun, RunsHours}

-- ---- the days

days_fit : (d : ℕ) (os : List Order) → 1 ≤ d → d ≤ 366 → AllFit os → (1 ≤ days_from d os) × (days_from d os ≤ 366)
unfolding days_from
days_fit d [] l m f = (l, m)
days_fit d (Days n ∷ os) l m f = days_fit n os f.0.0 f.0.1 f.1
days_fit d (Read s t ∷ os) l m f = days_fit d os l m f.1
days_fit d (Level s t v ∷ os) l m f = days_fit d os l m f.1

module _ {plan text xs ys : List ℕ} {a : Result ℕ SetUpError} (S : SetsUp plan text xs a ys) where
  pub few_days : {d : ℕ} → a ≡ Ok d → (1 ≤ d) × (d ≤ 366)
  few_days {d} q =
      let w = (S.ready d q).2 in
      let f = days_fit 1 w.orders (omega arith) (omega arith) w.says.fit in
      (omega (arith, f.0, w.for_days), omega (arith, f.1, w.for_days))

  -- ---- not set up

  pub not_set_up : {os ws : List ℕ} {e : SetUpError} → 17568 ≤ length ws → a ≡ Err e → Quotes plan text xs os ws (Err (Q.SetUp e)) ys os ws
  not_set_up {e = e} size q = record {
    short = λ l. absurd (omega (arith, l, size));
    room = λ _ z. cc;
    done = λ d z. cc;
    unopened = λ f z. S.unopened f (q ∙ ap Err (let b : e ≡ A.Plan f = cc in b));
    line = λ l z. S.line l (q ∙ ap Err (let b : e ≡ A.Line l = cc in b));
    reading = λ f z. S.reading f (q ∙ ap Err (let b : e ≡ A.Reading f = cc in b));
    stopped = λ u z. cc;
  }

  -- ---- run

  module _ {d : ℕ} (q : a ≡ Ok d) where
    ready : (opened : List ℕ) × OpensQuote plan xs (Ok tt) opened × IsReady plan text d opened ys
    ready = S.ready d q

    begun : Begun plan (scenario_calls (line_of plan) ready.2.orders) ys
    begun = record { before = xs; opened = ready.0; opening = ready.1; posted = ready.2.posted }

    module _ {os zs ps ts : List ℕ} {r : Result Unit UntilError} (H : RunsHours (24 * d) ys os r zs ps ts) where
      quoted : r ≡ Ok tt → Quoted plan text d xs zs ts
      unfolding scenario_events
      quoted e =
          let h = H.done e in
          let events = scenario_events (line_of plan) ready.2.orders in
          let time : 3600000 * (24 * d) ≡ 86400000 * d = omega arith in
          record {
            opened = ready.0;
            opening = ready.1;
            begun = ys;
            ready = ready.2;
            stands = subst (λ (t : ℕ). StandsAt plan t events zs) time
                (h.stands plan (scenario_calls (line_of plan) ready.2.orders) begun (let l = few_days q in omega (arith, l.0)));
            hours = λ k l. h.hours plan (scenario_calls (line_of plan) ready.2.orders) begun k l;
          }

      stops : (u : UntilError) → r ≡ Err u → StoppedAt plan text u xs os zs ps
      stops u n =
          let s = H.stopped u n in
          record {
            opened = ready.0;
            opening = ready.1;
            days = d;
            begun = ys;
            ready = ready.2;
            hour = s.hour;
            within = s.within;
            calls = s.calls;
            before = s.before;
            output = s.output;
            works = s.works;
            reached = s.reached;
            until = s.until;
          }

      module _ {ws : List ℕ} (size : 17568 ≤ length ws) where
        pub is_quoted : r ≡ Ok tt → Quotes plan text xs os ws (Ok d) zs ps ts
        is_quoted e = record {
          short = λ l. absurd (omega (arith, l, size));
          room = λ _ z. cc;
          done = λ n z. let b : d ≡ n = cc in subst (λ (m : ℕ). Quoted plan text m xs zs ts) b (quoted e);
          unopened = λ f z. cc;
          line = λ l z. cc;
          reading = λ f z. cc;
          stopped = λ u z. cc;
        }

        pub is_stopped : {u : UntilError} → r ≡ Err u → Quotes plan text xs os ws (Err (Q.Stopped u)) zs ps ts
        is_stopped {u} n = record {
          short = λ l. absurd (omega (arith, l, size));
          room = λ _ z. cc;
          done = λ m z. cc;
          unopened = λ f z. cc;
          line = λ l z. cc;
          reading = λ f z. cc;
          stopped = λ v z. stops v (n ∙ ap Err (let b : u ≡ v = cc in b));
        }

-- ---- the answer

pub short_table : {plan text xs os ts : List ℕ} → length ts < 17568 → Quotes plan text xs os ts (Err Q.Short) xs os ts
short_table l = record {
  short = λ _. (refl, refl, refl, refl);
  room = λ m _. absurd (omega (arith, l, m));
  done = λ d z. cc;
  unopened = λ f z. cc;
  line = λ j z. cc;
  reading = λ f z. cc;
  stopped = λ u z. cc;
}
