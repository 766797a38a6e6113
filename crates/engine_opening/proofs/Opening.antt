-- An opening: which test answers, and where none does the bytes stand for the opened engine.
use mathlib.Core.Path.{◌≡◌, refl, sym, ap, ◌∙◌, subst}
use mathlib.Core.List.{List, []}
use Prim.Native.Nat.{ℕ, ◌+◌, ◌*◌, ◌≤◌, ◌<◌}
use native.Mathlib.Omega.{arith}
use lib.ListN.{length}
use Rattle.std.specs.Prelude.{Result, Ok, Err}
use Rattle.refusal.specs.declared.Refusal.{Refusal}
use Rattle.refusal.specs.Numbers.{stations_of}
use Rattle.refusal.specs.Tests.{judged}
use Rattle.refusal.specs.Cases.{first_of, checks_of}
use Rattle.refusal.proofs.CheckingOrder.{first_mapped, first_judged}
use Rattle.words.specs.Le.{store_at}
use Rattle.words.proofs.Laws.{length_store}
use Rattle.line.specs.Station.{InRange, initial}
use Rattle.rules.specs.Engine.{chosen, opened}
use Rattle.rules.specs.Demand.{end}
use Rattle.plan_format.specs.Plan.{count, station_at}
use Rattle.plan_format.specs.Reading.{judging}
use Rattle.plan_format.proofs.Accepted.{Accepted, accepted, accepted_in_range}
use Rattle.engine_rows.specs.Layout.{station_row}
use Rattle.engine_records.specs.Records.{state_at, stored_config}
use Rattle.engine_rows.proofs.Rows.{word_in, config_in, state_in, header_station, row_other}
use Rattle.engine_events.specs.Represents.{Holds}
use Rattle.engine_events.specs.Promises.{AfterHeader}
use Rattle.engine_moves.specs.Promises.{ClearsEvents}
use Rattle.plan_format.specs.Line.{line_of}
use Rattle.engine_promises.specs.Represents.{Represents}
use Rattle.engine_promises.specs.Answers.{open_says, open_station}
use Rattle.engine_promises.specs.Promises.{open_cases, Opens}
use Rattle.engine_opening.specs.Steps.{StationsBegun}
use Rattle.engine_opening.proofs.Choice.{Passes, passes}
use Rattle.engine_promises.proofs.OpeningOrder.{choosing, opening, opening_is}
use Rattle.engine_promises.proofs.Header.{header_word, header_other, header_kept}

pub few_stations : (plan : List ℕ) {n : ℕ} → Ok n ≡ judging plan → n ≤ 256
few_stations plan {n} e = (accepted plan n (sym e)).most

-- ---- the header

module _ (n : ℕ) (i v : ℕ) (xs : List ℕ) (h : i < 8) where
  header_config : (s : ℕ) → stored_config (station_row n s) (store_at 8 (8 * i) v xs) ≡ stored_config (station_row n s) xs
  header_config s = row_other (word_in i h) (config_in n s) (header_station n s) v xs

  header_state : (s : ℕ) → state_at (station_row n s + 32) (store_at 8 (8 * i) v xs) ≡ state_at (station_row n s + 32) xs
  header_state s = row_other (word_in i h) (state_in n s) (header_station n s) v xs

-- the four words
abbrev headed : ℕ → ℕ → List ℕ → List ℕ
headed n c xs = store_at 8 24 0 (store_at 8 16 0 (store_at 8 8 c (store_at 8 0 n xs)))

length_headed : (n c : ℕ) (xs : List ℕ) → length (headed n c xs) ≡ length xs
length_headed n c xs = rw (length_store, length_store, length_store, length_store)

-- ---- the engine

line_count : (plan : List ℕ) → (line_of plan).count ≡ count plan
unfolding line_of
line_count plan = refl

line_range : (plan : List ℕ) (n : ℕ) → judging plan ≡ Ok n → InRange (line_of plan)
unfolding line_of
line_range plan n e =
    subst (λ (k : ℕ). InRange (record { count = k; config = λ s. (station_at plan s).config })) (accepted plan n e).counted (accepted_in_range plan n e)

module _ {plan : List ℕ} {n c arity width : ℕ} {xs ys zs : List ℕ} (e : judging plan ≡ Ok n) (P : Passes n arity width c (length xs))
    (B : StationsBegun plan n xs ys) (F : AfterHeader (headed n c ys) zs)
    (C : ClearsEvents n c arity width (headed n c ys) zs) where
  a : Accepted plan n
  a = accepted plan n e

  counts : (line_of plan).count ≡ n
  counts = line_count plan ∙ sym a.counted

  configs : (s : ℕ) → s < n → stored_config (station_row n s) (headed n c ys) ≡ (line_of plan).config s
  configs s b =
      header_config n 3 0 _ (omega arith) s ∙ header_config n 2 0 _ (omega arith) s ∙ header_config n 1 c _ (omega arith) s
      ∙ header_config n 0 n ys (omega arith) s ∙ B.configs (omega (arith, P.long)) s b

  states : (s : ℕ) → s < n → state_at (station_row n s + 32) (headed n c ys) ≡ initial (line_of plan) s
  states s b =
      header_state n 3 0 _ (omega arith) s ∙ header_state n 2 0 _ (omega arith) s ∙ header_state n 1 c _ (omega arith) s
      ∙ header_state n 0 n ys (omega arith) s ∙ B.states (omega (arith, P.long)) s b

  size : length (headed n c ys) ≡ length xs
  size = length_headed n c ys ∙ B.size

  holds : Holds (line_of plan) (chosen arity width c) n c 0 zs (opened (line_of plan) (chosen arity width c)).queue []
  holds = C (line_of plan) counts a.some a.most (omega (arith, P.two)) P.most P.in_table (rw size P.long) P.low P.high configs states

  long : 64 ≤ length ys
  long = omega (arith, B.size, P.long, P.two)

  opens : Represents (line_of plan) (opened (line_of plan) (chosen arity width c)) zs
  unfolding opened
  opens = record {
    range = line_range plan n e;
    reached = record { calls = []; made = end };
    stations =
        header_kept F 0 (omega arith) ∙ header_other 3 0 0 _ (omega arith) ∙ header_other 2 0 0 _ (omega arith) ∙ header_other 1 0 c _ (omega arith)
        ∙ header_word 0 n ys (omega arith) long (omega (arith, a.most)) ∙ sym counts;
    capacity =
        header_kept F 1 (omega arith) ∙ header_other 3 1 0 _ (omega arith) ∙ header_other 2 1 0 _ (omega arith)
        ∙ header_word 1 c (store_at 8 0 n ys) (omega arith) (rw length_store long) (omega (arith, P.most));
    now =
        header_kept F 2 (omega arith) ∙ header_other 3 2 0 _ (omega arith)
        ∙ header_word 2 0 (store_at 8 8 c (store_at 8 0 n ys)) (omega arith) (rw (length_store, length_store) long) (omega arith);
    next =
        header_kept F 3 (omega arith)
        ∙ header_word 3 0 (store_at 8 16 0 (store_at 8 8 c (store_at 8 0 n ys))) (omega arith) (rw (length_store, length_store, length_store) long) (omega arith);
    cells = [];
    holds = subst (λ (m : ℕ). Holds (line_of plan) (chosen arity width c) m c 0 zs (opened (line_of plan) (chosen arity width c)).queue []) (sym counts) holds;
  }

-- ---- the call

-- what an answer says that is the first of the cases
module _ (plan : List ℕ) (arity width capacity : ℕ) (xs : List ℕ) {r : Result Unit Refusal} (e : r ≡ opening (judging plan) arity width capacity (length xs)) where
  first_is : r ≡ first_of Err (open_cases plan arity width capacity (length xs)) (Ok tt)
  first_is = e ∙ opening_is plan arity width capacity (length xs)

  number_is : open_says r ≡ judged (checks_of (open_cases plan arity width capacity (length xs)))
  number_is = ap open_says first_is ∙ first_judged open_says Err (open_cases plan arity width capacity (length xs)) (Ok tt) (λ f. refl) refl

  station_is : open_station r ≡ first_of stations_of (open_cases plan arity width capacity (length xs)) []
  station_is = ap open_station first_is ∙ first_mapped open_station Err (open_cases plan arity width capacity (length xs)) (Ok tt)

-- a refusal changes nothing
unopened : {plan : List ℕ} {arity width capacity : ℕ} {xs : List ℕ} (r : Refusal) → Err r ≡ opening (judging plan) arity width capacity (length xs)
    → Opens plan arity width capacity xs (Err r) xs
unopened {plan} {arity} {width} {capacity} {xs} r e = record {
  answer = first_is plan arity width capacity xs e;
  number = number_is plan arity width capacity xs e;
  station = station_is plan arity width capacity xs e;
  refusal = λ f q. refl;
  opens = λ q. let z : ◌≡◌ {A = ℕ} 0 1 = cc in absurd (omega arith);
}

pub unread : {plan : List ℕ} {arity width capacity : ℕ} {xs : List ℕ} (r : Refusal) → Err r ≡ judging plan
    → Opens plan arity width capacity xs (Err r) xs
unread {arity = arity} {width = width} {capacity = capacity} {xs = xs} r e =
    unopened r (ap (λ (a : Result ℕ Refusal). opening a arity width capacity (length xs)) e)

-- what the numbers after the plan's say
pub unchosen : {plan : List ℕ} {n arity width capacity : ℕ} {xs : List ℕ} (r : Refusal) → judging plan ≡ Ok n
    → Err r ≡ choosing n arity width capacity (length xs)
    → Opens plan arity width capacity xs (Err r) xs
unchosen {arity = arity} {width = width} {capacity = capacity} {xs = xs} r e f =
    unopened r (f ∙ sym (ap (λ (a : Result ℕ Refusal). opening a arity width capacity (length xs)) e))

pub opened_call : {plan : List ℕ} {n c arity width : ℕ} {xs y₀ y₁ y₂ y₃ y₄ zs : List ℕ} → judging plan ≡ Ok n
    → Ok tt ≡ choosing n arity width c (length xs)
    → StationsBegun plan n xs y₀ → y₁ ≡ store_at 8 0 n y₀ → y₂ ≡ store_at 8 8 c y₁ → y₃ ≡ store_at 8 16 0 y₂
    → y₄ ≡ store_at 8 24 0 y₃ → AfterHeader y₄ zs → ClearsEvents n c arity width y₄ zs → Opens plan arity width c xs (Ok tt) zs
opened_call {plan} {n} {c} {arity} {width} {xs} {y₀} {y₁} {y₂} {y₃} {y₄} {zs} e f B a₁ a₂ a₃ a₄ F C =
    let q : y₄ ≡ headed n c y₀ = rw (a₄, a₃, a₂, a₁) in
    let F' = subst (λ (us : List ℕ). AfterHeader us zs) q F in
    let C' = subst (λ (us : List ℕ). ClearsEvents n c arity width us zs) q C in
    let d : Ok tt ≡ opening (judging plan) arity width c (length xs) =
    f ∙ sym (ap (λ (a : Result ℕ Refusal). opening a arity width c (length xs)) e) in
    record {
      answer = first_is plan arity width c xs d;
      number = number_is plan arity width c xs d;
      station = station_is plan arity width c xs d;
      refusal = λ r z. let z : ◌≡◌ {A = ℕ} 0 1 = cc in absurd (omega arith);
      opens = λ _. opens e (passes n arity width c (length xs) (sym f)) B F' C';
    }
