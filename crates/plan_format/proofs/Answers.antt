-- What the plan's answers say: each by the first of its refusals that holds; and the reader's by the answer that the plan itself has.
use Prim.Native.Nat.{ℕ, ◌≤◌}
use native.Mathlib.Omega.{arith}
use mathlib.Core.Path.{◌≡◌, refl, sym, ◌∙◌}
use mathlib.Core.Bool.{Bool, true, false, cond}
use mathlib.Core.List.{List, [], ◌∷◌}
use lib.Dec.{ltb}
use borrow.Author.Tests.{ltb-false, le-ltb}
use Rattle.std.specs.Prelude.{Result, Ok, Err}
use Rattle.refusal.specs.declared.Refusal.{Refusal}
use Rattle.refusal.specs.declared.Refusal.TheVariants.{Output}
use Rattle.refusal.specs.Numbers.{stations_of}
use Rattle.refusal.specs.Tests.{judged}
use Rattle.refusal.specs.Cases.{Case, gives, first_of, checks_of}
use Rattle.refusal.proofs.CheckingOrder.{first_mapped, first_more, first_judged}
use Rattle.plan_format.specs.Numbers.{answer_says, answer_station}
use Rattle.plan_format.specs.Plan.{count}
use Rattle.plan_format.specs.Reading.{plan_cases, judging, reading}

-- ---- the number and the station

pub answer_number : {T : Type 0} (cs : List Case) (done : T) → answer_says (first_of Err cs (Ok done)) ≡ judged (checks_of cs)
answer_number {T} cs done = first_judged (answer_says {T = T}) Err cs (Ok done) (λ e. refl) refl

pub answer_station_lem : {T : Type 0} (cs : List Case) (done : T) → answer_station (first_of Err cs (Ok done)) ≡ first_of stations_of cs []
answer_station_lem {T} cs done = first_mapped (answer_station {T = T}) Err cs (Ok done)

-- ---- the reader's answer

-- a plan that was judged so, read into a list of so many records
abbrev pub in_room : ℕ → Result ℕ Refusal → Result ℕ Refusal
in_room room (Ok n) = cond (ltb room n) (Err Output) (Ok n)
in_room room (Err r) = Err r

pub reading_in : (p : List ℕ) (room : ℕ) → reading p room ≡ in_room room (judging p)
unfolding reading judging
reading_in p room =
    first_more Err (plan_cases p) (gives Output (ltb room (count p)) ∷ []) (Ok (count p))
    ∙ sym (first_mapped (in_room room) Err (plan_cases p) (Ok (count p)))

-- ---- what an accepted read says

pub record ReadIn (p : List ℕ) (room n : ℕ) : Type 0 where
  pub judged_so : judging p ≡ Ok n
  pub held : n ≤ room

in_room_lem : (p : List ℕ) (room n : ℕ) (a : Result ℕ Refusal) → judging p ≡ a → in_room room a ≡ Ok n → ReadIn p room n
in_room_lem p room n (Err r) e h = absurd (let z : ◌≡◌ {A = ℕ} 0 1 = cc in omega arith)
in_room_lem p room n (Ok m) e h = by_test (ltb room m) refl h
  where
    by_test : (t : Bool) → ltb room m ≡ t → cond t (Err Output) (Ok m) ≡ Ok n → ReadIn p room n
    by_test true t g = absurd (let z : ◌≡◌ {A = ℕ} 0 1 = cc in omega arith)
    by_test false t g = let q : m ≡ n = cc in record { judged_so = e ∙ g; held = omega (arith, ltb-false room m t) }

pub reading_accepted : (p : List ℕ) (room n : ℕ) → reading p room ≡ Ok n → ReadIn p room n
reading_accepted p room n e = in_room_lem p room n (judging p) refl (sym (reading_in p room) ∙ e)

pub reading_accepts : (p : List ℕ) (room n : ℕ) → judging p ≡ Ok n → n ≤ room → reading p room ≡ Ok n
reading_accepts p room n e h = rw (reading_in, e, le-ltb room n h)
