-- Line by line the two engines are of one state, so what is printed is the same.
use mathlib.Core.Path.{◌≡◌, refl, sym, ap, ap₂, ◌∙◌, subst}
use mathlib.Core.List.{List, [], ◌∷◌, ◌++◌}
use Prim.Native.Nat.{ℕ}
use native.Mathlib.Omega.{arith}
use lib.ListN.{length, length-append}
use Rattle.std.specs.Prelude.{Result, Ok, Err}
use Rattle.refusal.specs.declared.Refusal.{Refusal}
use Rattle.refusal.specs.Cases.{first_of}
use Rattle.line.specs.Station.{Plan}
use Rattle.rules.specs.Engine.{chosen, opened}
use Rattle.rules.proofs.Calls.Invariant.{opened_inv}
use Rattle.plan_format.specs.Line.{line_of}
use Rattle.engine_promises.specs.Promises.{open_cases, Opens}
use Rattle.bench_answers.specs.Shown.{open_lines}
use Rattle.bench_answers.specs.Promises.{Replied}
use Rattle.bench_console.specs.Input.{Consumed, unfed, inside, ends, Ended, whole, last}
use Rattle.bench_printouts.specs.BenchPrintouts.{refused, accepted, BenchPrintouts}
use Rattle.bench_printouts.proofs.Replies.{Twins, replied_same}

-- ---- a list with one byte more

not_none : (xs : List ℕ) (b : ℕ) → [] ≡ xs ++ b ∷ [] → ⊥
not_none xs b e = omega (arith, ap length e, length-append xs (b ∷ []))

one_more : (xs ys : List ℕ) (a b : ℕ) → xs ++ a ∷ [] ≡ ys ++ b ∷ [] → (xs ≡ ys) × (a ≡ b)
one_more [] [] a b e = (refl, (cc))
one_more [] (y ∷ ys) a b e = let z : [] ≡ ys ++ b ∷ [] = cc in absurd (not_none ys b z)
one_more (x ∷ xs) [] a b e = let z : xs ++ a ∷ [] ≡ [] = cc in absurd (not_none xs a (sym z))
one_more (x ∷ xs) (y ∷ ys) a b e =
    let h : x ≡ y = cc in
    let t : xs ++ a ∷ [] ≡ ys ++ b ∷ [] = cc in
    let r = one_more xs ys a b t in
    (ap₂ (λ z zs. z ∷ zs) h r.0, r.1)

-- ---- the input

module _ (p : Plan) where
  record Same (rest rest' xs ys printed more : List ℕ) : Type 0 where
    rests : rest ≡ rest'
    text : printed ≡ more
    twins : Twins p xs ys

  consumed_same : {xs ys input input' rest rest' xs' ys' printed more : List ℕ} → Twins p xs ys → input ≡ input' → Consumed xs input rest xs' printed
      → Consumed ys input' rest' ys' more → Same rest rest' xs' ys' printed more
  consumed_same t e unfed unfed = record { rests = refl; text = refl; twins = t }
  consumed_same t e unfed (inside {input = i} b n c) = absurd (not_none i b e)
  consumed_same t e unfed (ends {input = i} c r) = absurd (not_none i 10 e)
  consumed_same t e (inside {input = i} b n c) unfed = absurd (not_none i b (sym e))
  consumed_same t e (ends {input = i} c r) unfed = absurd (not_none i 10 (sym e))
  consumed_same t e (inside {input = i} b n c) (inside {input = j} d m k) =
      let z = one_more i j b d e in
      let s = consumed_same t z.0 c k in
      record { rests = ap₂ (λ l x. l ++ x ∷ []) s.rests z.1; text = s.text; twins = s.twins }
  consumed_same t e (inside {input = i} b n c) (ends {input = j} k r) = absurd (n (one_more i j b 10 e).1)
  consumed_same t e (ends {input = i} c r) (inside {input = j} d m k) = absurd (m (sym (one_more i j 10 d e).1))
  consumed_same t e (ends {input = i} {ys = ys} {zs = zs} {more = more} c r) (ends {input = j} {ys = vs} {zs = ws} {more = other} k q) =
      let s = consumed_same t (one_more i j 10 10 e).0 c k in
      let z = replied_same s.twins r (subst (λ l. Replied l vs ws other) (sym s.rests) q) in
      record { rests = refl; text = ap₂ ◌++◌ s.text z.0; twins = z.1 }

  ended_same : {xs ys input xs' ys' printed more : List ℕ} → Twins p xs ys → Ended xs input xs' printed → Ended ys input ys' more → printed ≡ more
  ended_same t (whole c) (whole k) = (consumed_same t refl c k).text
  ended_same t (whole c) (last k q) = let e = (consumed_same t refl c k).rests in absurd (let z : ◌≡◌ {A = ℕ} 0 1 = cc in omega arith)
  ended_same t (last c r) (whole k) = let e = (consumed_same t refl c k).rests in absurd (let z : ◌≡◌ {A = ℕ} 0 1 = cc in omega arith)
  ended_same t (last c r) (last {ys = vs} {zs = ws} {more = other} k q) =
      let s = consumed_same t refl c k in
      ap₂ ◌++◌ s.text (replied_same s.twins r (subst (λ l. Replied l vs ws other) (sym s.rests) q)).0

-- ---- the opening

-- an opening's answer is a matter of the plan and the buffer's length
one_opening : {plan xs ys xs' ys' : List ℕ} {r q : Result Unit Refusal} → length xs ≡ length ys → Opens plan 16 64 64 xs r xs' → Opens plan 16 64 64 ys q ys' → r ≡ q
one_opening {plan} e o k = o.answer ∙ ap (λ n. first_of Err (open_cases plan 16 64 64 n) (Ok tt)) e ∙ sym k.answer

never : {e : Refusal} → ◌≡◌ {A = Result Unit Refusal} (Ok tt) (Err e) → ⊥
never z = let y : ◌≡◌ {A = ℕ} 0 1 = cc in omega arith

pub bench_printouts : BenchPrintouts
bench_printouts plan input printed other (refused e l o) (refused f m k) = ap open_lines (one_opening (l ∙ sym m) o k)
bench_printouts plan input printed other (refused e l o) (accepted m k c) = absurd (never (one_opening (m ∙ sym l) k o))
bench_printouts plan input printed other (accepted l o c) (refused f m k) = absurd (never (one_opening (l ∙ sym m) o k))
bench_printouts plan input printed other (accepted {opened = xs} l o c) (accepted {opened = ys} m k d) = ended_same (line_of plan) twins c d
  where
    twins : Twins (line_of plan) xs ys
    twins = record {
      engine = opened (line_of plan) (chosen 16 64 64);
      posts = [];
      gone = [];
      log = [];
      inv = opened_inv (line_of plan) (chosen 16 64 64);
      one = o.opens refl;
      other = k.opens refl;
    }
