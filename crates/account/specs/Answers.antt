-- The number that each answer says (document 01, "Where an answer is an enum, a definition gives this paper's number and values for each of its cases").
use Rattle.std.specs.Prelude.{ℕ, Result, Ok, Err, ⊤}
use Rattle.refusal.specs.declared.Refusal.{Refusal}
use Rattle.refusal.specs.Numbers.{number_of}
use Rattle.refusal.specs.Tests.{Verdict, accepted, refused}

abbrev pub account_says : Result ⊤ Refusal → Verdict
account_says (Ok _) = accepted
account_says (Err e) = refused (number_of e)

abbrev pub charge_says : Result ℕ Refusal → Verdict
charge_says (Ok v) = accepted
charge_says (Err e) = refused (number_of e)
