-- From the lines taken and the first_readings to all that is posted; and after the opening.
use mathlib.Core.Path.{◌≡◌, sym, ap, ◌∙◌, subst}
use mathlib.Core.Bool.{Bool, cond}
use mathlib.Core.List.{List, [], ◌++◌}
use Prim.Native.Nat.{ℕ, ◌-◌, ◌≤◌}
use native.Mathlib.Omega.{arith}
use Rattle.std.specs.Prelude.{Result, Ok, Err}
use Rattle.refusal.specs.declared.Refusal.{Refusal}
use Rattle.engine_promises.specs.Promises.{Opens}
use Rattle.plan_format.specs.Line.{line_of}
use Rattle.plan_format.specs.Plan.{count}
use Rattle.scenario.specs.Scenario.{order_calls, has_read, first_readings, scenario_calls}
use Rattle.scenario_posting.specs.declared.Asked.{Asked}
use Rattle.scenario_posting.specs.declared.LineRefused.{LineRefused as RefusedLine}
use Rattle.scenario_posting.specs.Promises.{AllPosted, AllTaken, TakesLines}
use Rattle.scenario_posting.proofs.Posts.{posted_join}
use Rattle.quote_setup.specs.declared.SetUpError.{SetUpError}
use Rattle.quote_setup.specs.declared.SetUpError.TheVariants as A
use Rattle.quote_setup.specs.Promises.{OpensQuote, RefusedReading, SetsUp}
use Rattle.quote_setup.specs.Steps.{ReadsUnasked, PostsAll}

-- ---- all posts

module _ {text xs ys : List ℕ} {n : ℕ} {l : Result Asked RefusedLine} (T : TakesLines text xs l ys) where
  pub line_refused : {m : RefusedLine} → l ≡ Err m → PostsAll text n xs (Err (A.Line m)) ys
  line_refused {m} q = record {
    opens = λ f z. cc;
    ready = λ d z. cc;
    line = λ j z. T.refused j (q ∙ ap Err (let a : m ≡ j = cc in a));
    reading = λ f z. cc;
  }

  module _ {a : Asked} (q : l ≡ Ok a) {zs : List ℕ} {r : Result Unit Refusal} (S : ReadsUnasked n a.read ys r zs) where
    taken : AllTaken text a.days a.read xs ys
    taken = T.all a q

    pub all_posted : r ≡ Ok tt → PostsAll text n xs (Ok a.days) zs
    all_posted e = record {
      opens = λ f z. cc;
      ready = λ days z.
          let b : a.days ≡ days = cc in
          record {
            orders = taken.orders;
            says = taken.says;
            for_days = sym b ∙ taken.for_days;
            posted = subst (λ b. AllPosted xs (order_calls taken.orders ++ cond b [] (first_readings (n - 1))) zs) taken.asks
                (posted_join (order_calls taken.orders) taken.posted (S.all e));
          };
      line = λ j z. cc;
      reading = λ f z. cc;
    }

    pub reading_refused : {e : Refusal} → r ≡ Err e → PostsAll text n xs (Err (A.Reading e)) zs
    reading_refused {e} w = record {
      opens = λ f z. cc;
      ready = λ days z. cc;
      line = λ j z. cc;
      reading = λ f z.
          let b : e ≡ f = cc in
          let s = S.refused f (w ∙ ap Err b) in
          record {
            orders = taken.orders;
            says = taken.says;
            unasked = sym taken.asks ∙ s.0;
            station = s.1.station;
            below = s.1.below;
            posted = posted_join (order_calls taken.orders) taken.posted s.1.posted;
            refused = s.1.refused;
          };
    }

-- ---- after the opening

module _ {plan xs ys : List ℕ} {width : ℕ} {o : Result Unit Refusal} (W : (1 ≤ width) × (width ≤ 1048576)) (H : Opens plan 16 width 4096 xs o ys) where
  opening : {a : Result Unit Refusal} → o ≡ a → OpensQuote plan xs a ys
  opening q = record { width = width; least = W.0; most = W.1; opens = subst (λ a. Opens plan 16 width 4096 xs a ys) q H }

  pub unopened : {text : List ℕ} {e : Refusal} → o ≡ Err e → SetsUp plan text xs (Err (A.Plan e)) ys
  unopened {text} {e} q = record {
    ready = λ d z. cc;
    unopened = λ f z. opening (q ∙ ap Err (let b : e ≡ f = cc in b));
    line = λ j z. cc;
    reading = λ f z. cc;
  }

  pub sets_up : {text : List ℕ} {n : ℕ} {zs : List ℕ} {r : Result ℕ SetUpError} → o ≡ Ok tt → n ≡ count plan → PostsAll text n ys r zs → SetsUp plan text xs r zs
  unfolding line_of scenario_calls
  sets_up {text} {n} {zs} q c P =
      let quote = opening q in
      record {
        ready = λ d z.
            let w = P.ready d z in (
              ys,
              quote,
              record {
                orders = w.orders;
                says = w.says;
                for_days = w.for_days;
                posted = subst (λ (m : ℕ). AllPosted ys (order_calls w.orders ++ cond (has_read w.orders) [] (first_readings (m - 1))) zs) c w.posted;
              },
            );
        unopened = λ f z. absurd (P.opens f z);
        line = λ j z. (ys, quote, P.line j z);
        reading = λ f z. (ys, quote, subst (λ (m : ℕ). RefusedReading text m f ys zs) c (P.reading f z));
      }
