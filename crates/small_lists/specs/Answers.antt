-- The number that each answer says (document 01, "Where an answer is an enum, a definition gives this paper's number and values for each of its cases").
use Rattle.std.specs.Prelude.{Result, Ok, Err, ⊤}
use Rattle.refusal.specs.declared.Refusal.{Refusal}
use Rattle.refusal.specs.Numbers.{number_of}
use Rattle.refusal.specs.Tests.{Verdict, accepted, refused}

abbrev pub lists_says : Result ⊤ Refusal → Verdict
lists_says (Ok _) = accepted
lists_says (Err e) = refused (number_of e)
