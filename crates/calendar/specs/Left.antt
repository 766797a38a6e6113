-- The bytes that an accepted opening, with the calls after it, leaves, and the state that the rules make of these calls (document 01, "What each number
-- says": "buffers that no accepted opening .., with the calls accepted after it, left so").
use Rattle.std.specs.Prelude.{List, ℕ, Ok, Err}
use Rattle.refusal.specs.declared.Refusal.{Refusal}
use Rattle.refusal.specs.Tests.{Check}
use Rattle.calendar_answers.specs.declared.Least.{Least}
use Rattle.calendar_header.specs.Rules.{Calendar, opened_calendar, register_checks, registered_at, unregister_checks, unregistered, advance_checks, advanced}
use Rattle.calendar_header.specs.Promises.{Obeys, Extracts, OpensCalendar}

pub data Left : List ℕ → Calendar → Type 0 where
  by_open : {xs ys : List ℕ} (n a w : ℕ) → OpensCalendar n a w xs (Ok tt) ys → Left ys (opened_calendar n a w)
  by_register : {xs ys : List ℕ} {q : Calendar} (s t : ℕ) → Left xs q → Obeys (λ p. register_checks p s t) (λ p. registered_at p s t) xs (Ok tt) ys
      → Left ys (registered_at q s t)
  by_unregister : {xs ys : List ℕ} {q : Calendar} (s : ℕ) → Left xs q → Obeys (λ p. unregister_checks p s) (λ p. unregistered p s) xs (Ok tt) ys
      → Left ys (unregistered q s)
  by_extract : {xs ys : List ℕ} {q : Calendar} (a : Least) → Left xs q → Extracts xs (Ok a) ys → Left ys (unregistered q a.station)
  by_advance : {xs ys : List ℕ} {q : Calendar} (f : ℕ) → Left xs q → Obeys (λ p. advance_checks p f) (λ p. advanced p f) xs (Ok tt) ys
      → Left ys (advanced q f)
  -- refused calls among them
  by_refusal : {xs ys : List ℕ} {q : Calendar} (e : Refusal) (checks : Calendar → List Check) (after : Calendar → Calendar)
      → Left xs q → Obeys checks after xs (Err e) ys → Left ys q
  by_none : {xs ys : List ℕ} {q : Calendar} (e : Refusal) → Left xs q → Extracts xs (Err e) ys → Left ys q
  by_no_open : {xs ys : List ℕ} {q : Calendar} (e : Refusal) (n a w : ℕ) → Left xs q → OpensCalendar n a w xs (Err e) ys → Left ys q
