-- Each call's answer, from what its steps promise.
use mathlib.Core.Path.{◌≡◌, refl, sym, ap, ◌∙◌}
use mathlib.Core.Bool.{Bool, true, false, cond}
use mathlib.Core.Logic.{inr}
use mathlib.Core.List.{List}
use Prim.Native.Nat.{ℕ, ◌+◌, ◌*◌, ◌^◌, ◌≤◌, ◌<◌}
use native.Mathlib.Omega.{arith}
use borrow.Author.Tests.{ltb-false}
use lib.Dec.{ltb}
use lib.ListN.{length, drop}
use Rattle.std.specs.Prelude.{Result, Ok, Err, ⊤}
use Rattle.words.specs.Le.{store_at}
use Rattle.words.proofs.Laws.{length_store, load_other, load_stored}
use Rattle.refusal.specs.declared.Refusal.{Refusal}
use Rattle.refusal.specs.declared.Refusal.TheVariants.{Space, Part}
use Rattle.refusal.specs.Tests.{account_space_out, judged}
use Rattle.refusal.specs.Cases.{Case, first_of, checks_of}
use Rattle.refusal.proofs.CheckingOrder.{first_judged}
use Rattle.line.proofs.Fits.{or_false}
use Rattle.account_parts.specs.Part.{part_out}
use Rattle.account.specs.Answers.{account_says, charge_says}
use Rattle.account.specs.Account.{reading_cost, frame_cost, charge_at, account_cases, part_cases, charge_cases}
use Rattle.account.specs.Promises.{OpensAccount, ReadsPart, ReadsCharge, charge_of}
use Rattle.account.specs.Steps.{Costs, CostsAdded, PartJudged, CostsStored, ChargesCleared}
use Rattle.account.proofs.Storing.{drop_store}

-- ---- an accepted call

-- no answer is both
pub done_refused : {e : Refusal} → ◌≡◌ {A = Result ⊤ Refusal} (Ok tt) (Err e) → ⊥
done_refused q = let z : ◌≡◌ {A = ℕ} 0 1 = cc in omega arith

-- its first number does not hold, and none of the rest does
pub passed : (v : Bool) (e : Refusal) (rest : Result ⊤ Refusal) → Ok tt ≡ cond v (Err e) rest → (v ≡ false) × (Ok tt ≡ rest)
passed true e rest q = absurd (done_refused q)
passed false e rest q = (refl, q)

-- what 7 leaves of N and the buffer's length
pub record Roomy (n bytes : ℕ) : Type 0 where
  pub few : n ≤ 256
  pub long : 8 + 8 * n ≤ bytes

pub room : (n bytes : ℕ) → account_space_out n bytes ≡ false → Roomy n bytes
room n bytes h =
    let a = or_false (ltb n 1) _ h in
    let b = or_false (ltb 256 n) _ a.1 in
    record { few = ltb-false 256 n b.0; long = ltb-false bytes (8 + 8 * n) b.1 }

-- ---- the number

pub said_number : (cs : List Case) (r : Result ⊤ Refusal) → r ≡ first_of Err cs (Ok tt) → account_says r ≡ judged (checks_of cs)
said_number cs r q = ap account_says q ∙ first_judged account_says Err cs (Ok tt) (λ e. refl) refl

pub reads_charge : (n s : ℕ) (xs : List ℕ) (r : Result ℕ Refusal) → r ≡ charge_of n s xs → ReadsCharge n s xs r
unfolding charge_of
reads_charge n s xs r q = record {
  answer = q;
  number = ap charge_says q ∙ first_judged charge_says Err (charge_cases n (length xs) s) (Ok (charge_at xs s)) (λ e. refl) refl;
}

-- ---- open

module _ (n a b : ℕ) (xs : List ℕ) where
  pub open_space : account_space_out n (length xs) ≡ true → OpensAccount n a b xs (Err Space) xs
  open_space h = record {
    answer = rw h;
    number = said_number (account_cases n (length xs)) (Err Space) (rw h);
    refusal = λ _ _. refl;
    opens = λ q. absurd (done_refused (sym q));
  }

  pub open_done : (y1 y2 ys : List ℕ) → account_space_out n (length xs) ≡ false → a < 256 ^ 4 → b < 256 ^ 4 → y1 ≡ store_at 4 0 a xs
      → y2 ≡ store_at 4 4 b y1 → ChargesCleared n n y2 ys → OpensAccount n a b xs (Ok tt) ys
  open_done y1 y2 ys h fa fb e1 e2 st = record {
    answer = rw h;
    number = said_number (account_cases n (length xs)) (Ok tt) (rw h);
    refusal = λ e q. absurd (done_refused q);
    opens = λ _. record {
      size = st.only.size ∙ ap length e2 ∙ length_store 4 4 b y1 ∙ long;
      reading = st.only.reading ∙ ap reading_cost e2 ∙ load_other 4 4 4 b y1 0 (inr (omega arith)) ∙ ap reading_cost e1 ∙ load_stored 4 0 a xs (omega (arith, r.long)) fa;
      frame = st.only.frame ∙ ap frame_cost e2 ∙ load_stored 4 4 b y1 (omega (arith, r.long, long)) fb;
      charges = st.charges;
      rest =
          st.only.rest
          ∙ ap (drop (8 + 8 * n)) e2 ∙ drop_store 4 4 b (8 + 8 * n) y1 (omega arith)
          ∙ ap (drop (8 + 8 * n)) e1 ∙ drop_store 4 0 a (8 + 8 * n) xs (omega arith);
    };
  }
    where
      r : Roomy n (length xs)
      r = room n (length xs) h

      long : length y1 ≡ length xs
      long = ap length e1 ∙ length_store 4 0 a xs

-- ---- a part is judged

module _ (n : ℕ) (part xs ws : List ℕ) (w : Costs ws) where
  judged_refused : (e : Refusal)
      → ◌≡◌ {A = Result ⊤ Refusal} (Err e) (first_of Err (part_cases n (length xs) (reading_cost xs) (frame_cost xs) (charge_at xs) part) (Ok tt))
      → PartJudged n part xs (Err e) ws
  judged_refused e h = record { words = w; answer = h; fits = λ q. absurd (done_refused (sym q)); costs = λ q. absurd (done_refused (sym q)) }

  pub judged_space : account_space_out n (length xs) ≡ true → PartJudged n part xs (Err Space) ws
  judged_space h = judged_refused Space (rw h)

  pub judged_part : account_space_out n (length xs) ≡ false → part_out n part ≡ true → PartJudged n part xs (Err Part) ws
  judged_part h p = judged_refused Part (rw (h, p))

-- where neither 7 nor 19 holds, what the costs answer, 20 or none
pub judged_costs : (n : ℕ) (part xs : List ℕ) → account_space_out n (length xs) ≡ false → part_out n part ≡ false → (r : Result ⊤ Refusal) (ws : List ℕ)
    → CostsAdded (reading_cost xs) (frame_cost xs) n part xs r ws → PartJudged n part xs r ws
judged_costs n part xs h p r ws c = record { words = c.words; answer = rw (h, p) c.answer; fits = c.fits; costs = c.costs }

-- ---- read

module _ (n : ℕ) (part xs ws : List ℕ) (r : Result ⊤ Refusal) (j : PartJudged n part xs r ws) where
  pub read_refused : (e : Refusal) → r ≡ Err e → ReadsPart n part xs (Err e) xs
  read_refused e q = record {
    answer = sym q ∙ j.answer;
    number = said_number (part_cases n (length xs) (reading_cost xs) (frame_cost xs) (charge_at xs) part) (Err e) (sym q ∙ j.answer);
    refusal = λ _ _. refl;
    takes = λ d. absurd (done_refused (sym d));
  }

  -- a part that is taken has passed 7
  pub room_taken : r ≡ Ok tt → Roomy n (length xs)
  room_taken d = room n (length xs) (passed (account_space_out n (length xs)) Space _ (sym d ∙ j.answer)).0

  pub read_done : r ≡ Ok tt → (ys : List ℕ) → CostsStored n part ws xs ys → ReadsPart n part xs (Ok tt) ys
  read_done d ys st = record {
    answer = sym d ∙ j.answer;
    number = said_number (part_cases n (length xs) (reading_cost xs) (frame_cost xs) (charge_at xs) part) (Ok tt) (sym d ∙ j.answer);
    refusal = λ e q. absurd (done_refused q);
    takes = λ _. record {
      size = st.only.size;
      reading = st.only.reading;
      frame = st.only.frame;
      charges = λ s l. let e = j.costs d s l in st.charges _ _ s l e ∙ ap (λ v. charge_at xs s + v) e;
      rest = st.only.rest;
    };
  }
