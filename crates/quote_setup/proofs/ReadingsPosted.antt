-- Readings at 0, station by station.
use mathlib.Core.Path.{◌≡◌, sym, ap, subst}
use mathlib.Core.Bool.{Bool, true, false}
use mathlib.Core.List.{List}
use Prim.Native.Nat.{ℕ, zero, suc, ◌+◌, ◌-◌, ◌≤◌, ◌<◌}
use native.Mathlib.Omega.{arith}
use Rattle.std.specs.Prelude.{Result, Ok, Err}
use Rattle.refusal.specs.declared.Refusal.{Refusal}
use Rattle.refusal.specs.Numbers.{number_of}
use Rattle.rules.specs.Engine.{Post, Refused}
use Rattle.rules.specs.Demand.{is_refused}
use Rattle.engine_answers.specs.declared.PostAnswer.{PostAnswer}
use Rattle.engine_promises.specs.Answers.{post_said}
use Rattle.engine_promises.specs.Promises.{Answered}
use Rattle.scenario.specs.Scenario.{first_readings}
use Rattle.scenario_posting.specs.Promises.{AllPosted, none, more}
use Rattle.quote_setup.specs.Steps.{ReadsEach, ReadsUnasked}

-- ---- each station below s

pub none_read : {xs : List ℕ} → AllPosted xs (first_readings 0) xs
unfolding first_readings
none_read = none

module _ {xs ys zs : List ℕ} (r : Result PostAnswer Refusal) where
  pub one_read : (s : ℕ) → 1 ≤ s → AllPosted xs (first_readings (s - 1)) ys → Answered (Post s 0 1 0) (post_said r) ys zs → {p : PostAnswer} → r ≡ Ok p
      → AllPosted xs (first_readings (s + 1 - 1)) zs
  unfolding first_readings
  one_read zero l p q e = absurd (omega arith)
  one_read (suc k) l p q e =
      let h : suc k + 1 - 1 ≡ suc k = omega arith in
      let j : suc k - 1 ≡ k = omega arith in
      rw h (more r (subst (λ n. AllPosted xs (first_readings n) ys) j p) q (ap (λ b. is_refused (post_said b)) e))

  pub not_read : (s : ℕ) → 1 ≤ s → AllPosted xs (first_readings (s - 1)) ys → Answered (Post s 0 1 0) (post_said r) ys zs → {n : ℕ} {e : Refusal} → s < n → r ≡ Err e
      → ReadsEach n xs (Err e) zs
  not_read zero l p q b w = absurd (omega arith)
  not_read (suc k) l p q {n} {e} below w =
      let j : suc k - 1 ≡ k = omega arith in
      let same : zs ≡ ys = q.refusal (number_of e) (ap post_said w) in
      let b : Answered (Post (suc k) 0 1 0) (Refused (number_of e)) ys ys =
      subst (λ t. Answered (Post (suc k) 0 1 0) t ys ys) (ap post_said w) (subst (λ l. Answered (Post (suc k) 0 1 0) (post_said r) ys l) same q) in
      record {
        all = λ z. cc;
        refused = λ f z.
            let m : e ≡ f = cc in
            record {
              station = k;
              below = below;
              posted = subst (λ l. AllPosted xs (first_readings k) l) (sym same) (subst (λ i. AllPosted xs (first_readings i) ys) j p);
              refused = subst (λ l. Answered (Post (suc k) 0 1 0) (Refused (number_of f)) l l) (sym same) (subst (λ g. Answered (Post (suc k) 0 1 0) (Refused (number_of g)) ys ys) m b);
            };
      }

pub all_read : {n s : ℕ} {xs ys : List ℕ} → n ≤ s → s - 1 ≤ n - 1 → AllPosted xs (first_readings (s - 1)) ys → ReadsEach n xs (Ok tt) ys
all_read {n} {s} {xs} {ys} h l p =
    let j : s - 1 ≡ n - 1 = omega (arith, h, l) in
    record { all = λ z. subst (λ k. AllPosted xs (first_readings k) ys) j p; refused = λ f z. cc }

-- ---- where no line asked for one

pub asked_for : {n : ℕ} {read : Bool} {xs : List ℕ} → read ≡ true → ReadsUnasked n read xs (Ok tt) xs
asked_for {n} e = record { all = λ z. rw e none; refused = λ f z. cc }

pub unasked : {n : ℕ} {read : Bool} {xs ys : List ℕ} {r : Result Unit Refusal} → read ≡ false → ReadsEach n xs r ys → ReadsUnasked n read xs r ys
unasked e p = record {
  all = λ z. rw e (p.all z);
  refused = λ f z. (e, p.refused f z);
}
