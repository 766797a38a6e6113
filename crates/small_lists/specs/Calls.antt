-- The calls that the lists are made of (document 02, change 12).
use Rattle.std.specs.Prelude.{ℕ, ◌≡◌, List, [], ◌∷◌, map}
use Rattle.std.proofs.Math.Option.{some}
use Rattle.std.proofs.Math.ListN.{get_elem?}
use Rattle.rules.specs.Engine.{Call, Post, Retract, RunStation, RunLowest, Commit}

-- "The calls are run, run 0, run 1, post of a reading at station 1 at times 0 and 30, retract 0, and commit 31, in this order." A commit has its output as
-- it is lent
abbrev pub named_calls : List ℕ → List Call
named_calls output = RunLowest ∷ RunStation 0 ∷ RunStation 1 ∷ Post 1 0 1 0 ∷ Post 1 30 1 0 ∷ Retract 0 ∷ Commit 31 output ∷ []

-- the call that a number stands for: "0 to 6 in the order named"
abbrev pub StandsFor : List ℕ → ℕ → Call → Type 0
StandsFor output k c = get_elem? (named_calls output) k ≡ some c

-- the calls that a list of numbers stands for
abbrev pub ListStandsFor : List ℕ → List ℕ → List Call → Type 0
ListStandsFor output ks cs = map (get_elem? (named_calls output)) ks ≡ map some cs
