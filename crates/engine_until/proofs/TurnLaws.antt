-- A stretch of runs, a commit after it, and turn after turn.
use mathlib.Core.Path.{◌≡◌, refl, sym, ◌∙◌, ap, subst}
use mathlib.Core.Bool.{Bool, true, false, cond}
use mathlib.Core.List.{List, [], ◌∷◌, ◌++◌, append_assoc}
use mathlib.Core.Logic.{inl, ◌≢◌}
use Prim.Native.Nat.{ℕ, ◌+◌, ◌-◌, ◌≤◌, ◌<◌}
use lib.ListN.{length, length-append}
use lib.Dec.{ltb}
use Rattle.std.specs.Prelude.{Result, Ok, Err}
use native.Mathlib.Omega.{arith}
use borrow.Author.Tests.{lt-ltb, le-ltb}
use Rattle.refusal.specs.declared.Refusal.{Refusal}
use Rattle.refusal.specs.Numbers.{number_of}
use Rattle.rules.specs.Engine.{RunLowest, Commit, Refused}
use Rattle.rules.specs.Demand.{Made}
use Rattle.engine_answers.specs.declared.LowestAnswer.{LowestAnswer}
use Rattle.engine_answers.specs.declared.NextAnswer.{NextAnswer}
use Rattle.engine_answers.specs.declared.UntilError.{UntilError}
use Rattle.engine_answers.specs.declared.UntilError.TheVariants as U
use Rattle.engine_promises.specs.Answers.{lowest_said, commit_said}
use Rattle.engine_promises.specs.Promises.{Answered, Commits, TellsNext}
use Rattle.engine.specs.Session.{made}
use Rattle.engine_until.specs.Promises.{Works, none, run, commit, Reaches, Met, RunsUntil}
use Rattle.engine_until.specs.Steps.{Goes, on, ends, Fronts, front_of, Stretches, Settles, reached, ran, busy, refused, EndsFor, StepsTo, Turns}
use Rattle.engine_until.proofs.Joins.{works_join, reach_join, reach_commit, met_first, met_last, busy_join}

-- ---- a stretch

-- run lowest calls, on any output
pub record RunsSoFar (xs ys : List ℕ) : Type 0 where
  pub calls : List Made
  pub works : (os : List ℕ) → Works xs os calls ys os

pub no_runs : {xs : List ℕ} → RunsSoFar xs xs
no_runs = record { calls = []; works = λ os. none }

pub more_runs : {xs ys zs : List ℕ} → RunsSoFar xs ys → (a : Result LowestAnswer Refusal) → Answered RunLowest (lowest_said a) ys zs → RunsSoFar xs zs
more_runs w a p = record {
  calls = w.calls ++ (made RunLowest (lowest_said a) ∷ []);
  works = λ os. works_join (w.works os) (run a p none);
}

pub stretch_ran : {xs ys : List ℕ} → RunsSoFar xs ys → Stretches xs (Ok tt) ys
stretch_ran w = record { calls = w.calls; works = w.works; ends = λ e q. let z : ◌≡◌ {A = ℕ} 0 1 = cc in absurd (omega arith) }

pub stretch_refused : {xs ys zs : List ℕ} {e : Refusal} → RunsSoFar xs ys → Answered RunLowest (Refused (number_of e)) ys zs → Stretches xs (Err e) zs
unfolding more_runs
stretch_refused {e = e} w p = record {
  calls = (more_runs w (Err e) p).calls;
  works = (more_runs w (Err e) p).works;
  ends = λ f q. let h : e ≡ f = cc in (w.calls, ap (λ g. w.calls ++ (made RunLowest (Refused (number_of g)) ∷ [])) h);
}

-- ---- the front of a turn

module _ {time : ℕ} {xs : List ℕ} {a : Result NextAnswer Refusal} (told : TellsNext xs a) where
  pub front_idle : {e : Refusal} → a ≡ Err e → Fronts time xs time
  front_idle q = record { answer = a; told = told; front = sym (ap (front_of time) q) }

  pub front_before : {x : NextAnswer} → a ≡ Ok x → x.time < time → Fronts time xs x.time
  front_before {x} q l = record { answer = a; told = told; front = sym (ap (front_of time) q ∙ ap (λ b. cond b x.time time) (lt-ltb x.time time l)) }

  pub front_after : {x : NextAnswer} → a ≡ Ok x → time ≤ x.time → Fronts time xs time
  front_after {x} q l = record { answer = a; told = told; front = sym (ap (front_of time) q ∙ ap (λ b. cond b x.time time) (le-ltb x.time time l)) }

below : (c t time : ℕ) (b : Bool) → c ≡ cond b t time → c ≢ time → t ≡ c
below c t time true q n = sym q
below c t time false q n = absurd (n q)

-- a front that is not the time is the least unrun time
front_least : {time c : ℕ} {ys : List ℕ} → Fronts time ys c → c ≢ time → (station : ℕ) × TellsNext ys (Ok (record { station = station; time = c }))
front_least {time} {c} {ys} f n = by_answer f.answer f.told f.front
  where
    by_answer : (a : Result NextAnswer Refusal) → TellsNext ys a → c ≡ front_of time a → (station : ℕ) × TellsNext ys (Ok (record { station = station; time = c }))
    by_answer (Ok x) told q = (x.station, subst (λ u. TellsNext ys (Ok (record { station = x.station; time = u }))) (below c x.time time (ltb x.time time) q n) told)
    by_answer (Err e) told q = absurd (n q)

-- ---- a turn: a stretch, then a commit

module _ {xs ys zs os ps : List ℕ} {c : ℕ} {s : Result Unit Refusal} (w : Stretches xs s ys) (a : Result ℕ Refusal) (p : Commits (Commit c) (commit_said a) ys zs os ps) where
  last : List Made
  last = made (Commit c os) (commit_said a ps) ∷ []

  turned : {time : ℕ} {r : Result Bool UntilError} → StepsTo time xs os (w.calls ++ last) r → Turns time xs os r zs ps
  unfolding last
  turned t = record {
    calls = w.calls ++ last;
    works = works_join (w.works os) (commit c a p none);
    some = omega (arith, length-append w.calls last);
    steps = t;
  }

  -- the stretch was refused
  run_met : (e : Refusal) → s ≡ Err e → Met (number_of e) (w.calls ++ last)
  run_met e q =
      let b = w.ends e q in
      met_first (number_of e) w.calls last (subst (Met (number_of e)) (sym b.1) (met_last (number_of e) b.0 _ (inl refl)))

  pub turn_refused : {time : ℕ} {r : Result Bool UntilError} (e : Refusal) → a ≡ Err e → Goes e r → Turns time xs os r zs ps
  unfolding last
  turn_refused e q on = turned tt
  turn_refused e q (ends n) = turned (met_last (number_of e) w.calls last (inl (ap (λ b. commit_said b ps) q)), n)

  settled : {n time : ℕ} {r : Result Bool UntilError} → Fronts time ys c → a ≡ Ok n → Settles s c n time r → StepsTo time xs os (w.calls ++ last) r
  unfolding last
  settled {n} f q (reached e) =
      subst (λ t. Reaches t (w.calls ++ last)) e
      (reach_join w.calls last (subst (λ d. Reaches c (made (Commit c os) (commit_said d ps) ∷ [])) (sym q) (reach_commit c n os ps)))
  settled f q ran = tt
  settled {n} f q (busy e d k h z) =
      let b = w.ends e k in
      let l = front_least f d in
      record {
        before = b.0;
        full = ys;
        output = os;
        works =
            subst (λ m. Works xs os m ys os) (b.1 ∙ ap (λ k. b.0 ++ (made RunLowest (Refused k) ∷ [])) h) (w.works os);
        station = l.0;
        least = l.1;
        left = ps;
        ends =
            ap (λ l. l ++ last) b.1 ∙ append_assoc b.0 _ last ∙ ap (λ k. b.0 ++ (made RunLowest (Refused k) ∷ last)) h
            ∙ ap (λ d. b.0 ++ (made RunLowest (Refused 17) ∷ made (Commit c os) (commit_said d ps) ∷ [])) (q ∙ ap Ok z);
      }
  settled f q (refused e k on) = tt
  settled f q (refused e k (ends n)) = (run_met e k, n)

  pub turn_done : {n time : ℕ} {r : Result Bool UntilError} → Fronts time ys c → a ≡ Ok n → Settles s c n time r → Turns time xs os r zs ps
  turn_done f q t = turned (settled f q t)

-- ---- the turns

-- so many turns, of one call at least
pub record Turned (turns : ℕ) (xs os ys ps : List ℕ) : Type 0 where
  pub calls : List Made
  pub works : Works xs os calls ys ps
  pub enough : turns ≤ length calls

pub none_turned : {xs os : List ℕ} → Turned 0 xs os xs os
none_turned = record { calls = []; works = none; enough = omega arith }

pub turned_more : {turns time : ℕ} {xs os ys ps zs qs : List ℕ} {r : Result Bool UntilError} → Turned turns xs os ys ps → Turns time ys ps r zs qs
    → Turned (turns + 1) xs os zs qs
turned_more w t = record {
  calls = w.calls ++ t.calls;
  works = works_join w.works t.works;
  enough = omega (arith, length-append w.calls t.calls, w.enough, t.some);
}

-- the time is reached
pub until_done : {time turns left : ℕ} {xs os ys ps zs qs : List ℕ} → Turned turns xs os ys ps → Turns time ys ps (Ok true) zs qs
    → RunsUntil time left xs os (Ok tt) zs qs
until_done w t = record {
  calls = w.calls ++ t.calls;
  works = works_join w.works t.works;
  done = λ q. reach_join w.calls t.calls t.steps;
  refused = λ e q. let z : ◌≡◌ {A = ℕ} 0 1 = cc in absurd (omega arith);
  busy = λ t q. let z : ◌≡◌ {A = ℕ} 0 1 = cc in absurd (omega arith);
  unfinished = λ q. let z : ◌≡◌ {A = ℕ} 0 1 = cc in absurd (omega arith);
}

-- a turn fails, and so do all calls
ends_join : {xs ys os ps : List ℕ} (ms ns : List Made) (u : UntilError) → Works xs os ms ys ps → EndsFor ys ps ns u → EndsFor xs os (ms ++ ns) u
ends_join ms ns (U.Refused e) w r = (met_last (number_of e) ms ns r.0, r.1)
ends_join ms ns (U.Busy t) w r = busy_join ms ns w r
ends_join ms ns U.Unfinished w r = r

pub until_fails : {time turns left : ℕ} {xs os ys ps zs qs : List ℕ} {u : UntilError} → Turned turns xs os ys ps → Turns time ys ps (Err u) zs qs
    → RunsUntil time left xs os (Err u) zs qs
until_fails {xs = xs} {os = os} {u = u} w t =
    let ms = w.calls ++ t.calls in
    let r : EndsFor xs os ms u = ends_join w.calls t.calls u w.works t.steps in
    record {
      calls = ms;
      works = works_join w.works t.works;
      done = λ q. let z : ◌≡◌ {A = ℕ} 0 1 = cc in absurd (omega arith);
      refused = λ e q. let z : u ≡ U.Refused e = cc in subst (EndsFor xs os ms) z r;
      busy = λ t q. let z : u ≡ U.Busy t = cc in subst (EndsFor xs os ms) z r;
      unfinished = λ q. let z : u ≡ U.Unfinished = cc in absurd (subst (EndsFor xs os ms) z r);
    }

pub turns_out : {time turns done : ℕ} {xs os ys ps : List ℕ} → turns ≤ done → Turned done xs os ys ps → RunsUntil time turns xs os (Err U.Unfinished) ys ps
turns_out l w = record {
  calls = w.calls;
  works = w.works;
  done = λ q. let z : ◌≡◌ {A = ℕ} 0 1 = cc in absurd (omega arith);
  refused = λ e q. let z : ◌≡◌ {A = ℕ} 0 1 = cc in absurd (omega arith);
  busy = λ t q. let z : ◌≡◌ {A = ℕ} 0 1 = cc in absurd (omega arith);
  unfinished = λ q. omega (arith, l, w.enough);
}
