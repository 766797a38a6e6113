-- The two passes of the writer together: what they answer and leave is what `writing` and `left` say.
use Prim.Native.Nat.{ℕ, ◌+◌, ◌*◌, ◌≤◌, ◌<◌}
use native.Mathlib.Omega.{arith}
use mathlib.Core.Path.{◌≡◌, refl, sym, ap, ◌∙◌}
use mathlib.Core.Bool.{Bool, true, false, cond, ◌||◌}
use mathlib.Core.List.{List, ◌++◌}
use lib.Dec.{ltb}
use lib.ListN.{length, take, drop, get_or}
use Rattle.std.specs.Prelude.{Result, Ok, Err}
use borrow.Author.Tests.{ltb-false, le-ltb}
use Rattle.refusal.specs.declared.Refusal.{Refusal}
use Rattle.refusal.specs.declared.Refusal.TheVariants.{Shape, Field, Name, Output}
use Rattle.plan_format.specs.declared.Station.{Station}
use Rattle.plan_writing.specs.declared.Pen.{Pen}
use Rattle.plan_format.specs.Lowest.{lowest}
use Rattle.plan_format.specs.Reading.{any}
use Rattle.plan_format.specs.Typed.{AreSized}
use Rattle.plan_format.specs.Writing.{plan_of, writing, no_station, field_out, word_out}
use Rattle.plan_writing.specs.Steps.{Draft, drafted, pen_of, wanted, answered}
use Rattle.line.proofs.Fits.{or_false}
use Rattle.plan_format.proofs.Lows.{lowest_full, lowest_none}
use Rattle.plan_format.proofs.Names.{name_short}
use Rattle.plan_writing.specs.Promises.{WritesPlan}
use Rattle.plan_writing.proofs.Promised.{writes_as}
use Rattle.plan_writing.proofs.WriteTests.{wanted_fits}
use Rattle.plan_writing.proofs.WriteSurvey.{spread, pen_at, surveyed}
use Rattle.plan_writing.proofs.WriteOutput.{plan_length, wrote}

-- stations ss, of which n are asked for, and an output; p is the first pass's pen at its start and q at its end, with the output then
pub record First (n : ℕ) (ss : List Station) (out mid : List ℕ) (p q : Pen) : Type 0 where
  pub start : p ≡ pen_of (wanted n (length ss)) false
  pub pass : drafted ss p.n (record { pen = p; out = out }) ≡ record { pen = q; out = mid }
  pub typed : AreSized ss

module _ {n : ℕ} {ss : List Station} {out mid : List ℕ} {p q : Pen} (f : First n ss out mid p q) where
  abbrev m : ℕ
  m = wanted n (length ss)

  found : ◌≡◌ {A = Draft} (record { pen = q; out = mid }) (record { pen = pen_at ss m false m; out = out })
  found = sym f.pass ∙ ap (λ (u : Pen). drafted ss u.n (record { pen = u; out = out })) f.start ∙ surveyed ss m out (wanted_fits n (length ss)).0

  pen_found : q ≡ pen_at ss m false m
  pen_found = ap (λ (d : Draft). d.pen) found

  out_found : mid ≡ out
  out_found = ap (λ (d : Draft). d.out) found

  pub first_most : q.n ≤ 256
  first_most = rw pen_found (wanted_fits n (length ss)).0

  pub second_held : {w : Pen} → w ≡ pen_of q.n true → w.n ≤ length ss
  second_held e = let k : q.n ≤ length ss = rw pen_found (wanted_fits n (length ss)).1 in rw e k

-- ---- the answer

-- a number of stations is refused, or is one of 1 to 256 that the list has
abbrev Wrong : ℕ → List Station → Bool
Wrong n ss = ltb n 1 || (ltb 256 n || ltb (length ss) n)

pub record Fit (n : ℕ) (ss : List Station) : Type 0 where
  pub some : 1 ≤ n
  pub most : n ≤ 256
  pub held : n ≤ length ss

never : {A : Type 0} {r : Refusal} {l : ℕ} → ◌≡◌ {A = Result ℕ Refusal} (Err r) (Ok l) → A
never e = absurd (let z : ◌≡◌ {A = ℕ} 0 1 = cc in omega arith)

fit_of : (n : ℕ) (ss : List Station) → Wrong n ss ≡ false → Fit n ss
fit_of n ss e =
    let a = or_false (ltb n 1) _ e in
    let b = or_false (ltb 256 n) _ a.1 in
    record { some = ltb-false n 1 a.0; most = ltb-false 256 n b.0; held = ltb-false (length ss) n b.1 }

wanted_fit : {n : ℕ} {ss : List Station} → Fit n ss → wanted n (length ss) ≡ n
wanted_fit {n} {ss} f = simp (le-ltb n 1 f.some, le-ltb 256 n f.most, le-ltb (length ss) n f.held)

module _ (n : ℕ) (ss : List Station) (room : ℕ) where
  abbrev plan : List ℕ
  plan = plan_of (take n ss)

  abbrev ending : ℕ → Result ℕ Refusal
  ending l = cond (ltb room l) (Err Output) (Ok l)

  module _ (fit : Fit n ss) (sized : AreSized ss) where
    short : n ≤ lowest (word_out ss) n → (i : ℕ) → i < n → (get_or ss i no_station).len ≤ 16
    short h i l = name_short (get_or ss i no_station) (lowest_none (word_out ss) n i (lowest_full (word_out ss) n h) l)

    judged : Wrong n ss ≡ false → answered (pen_at ss n false n) room ≡ writing n ss room
    unfolding answered writing
    judged e =
        ap (λ (t : Bool). cond t (Err Shape) (cond (any (field_out ss) n) field (cond (any (word_out ss) n) name (ending (2 + 8 * n + spread ss n))))) (le-ltb n 1 fit.some)
        ∙ ap (cond (any (field_out ss) n) field) (go (ltb (lowest (word_out ss) n) n) refl)
        ∙ ap (λ (t : Bool). cond t (Err Shape) (cond (any (field_out ss) n) field (cond (any (word_out ss) n) name (ending (length plan))))) (sym e)
      where
        field : Result ℕ Refusal
        field = Err (Field (lowest (field_out ss) n))

        name : Result ℕ Refusal
        name = Err (Name (lowest (word_out ss) n))

        go : (u : Bool) → ltb (lowest (word_out ss) n) n ≡ u
            → cond u name (ending (2 + 8 * n + spread ss n)) ≡ cond u name (ending (length plan))
        go true q = refl
        go false q = ap ending (sym (plan_length ss n fit.held (short (ltb-false (lowest (word_out ss) n) n q)) sized))

  shapeless : Wrong n ss ≡ true → writing n ss room ≡ Err Shape
  unfolding writing
  shapeless e = rw e

  -- a list of stations that is accepted, with its plan's length
  record Accepted (l : ℕ) : Type 0 where
    pub fit : Fit n ss
    pub words : n ≤ lowest (word_out ss) n
    pub size : l ≡ length plan
    pub fits : length plan ≤ room

  accepted : (l : ℕ) → writing n ss room ≡ Ok l → Accepted l
  unfolding writing
  accepted l e = go (Wrong n ss) (any (field_out ss) n) (any (word_out ss) n) (ltb room (length plan)) refl refl refl e
    where
      go : (b t u v : Bool) → Wrong n ss ≡ b → any (word_out ss) n ≡ u → ltb room (length plan) ≡ v
          → cond b (Err Shape) (cond t (Err (Field (lowest (field_out ss) n))) (cond u (Err (Name (lowest (word_out ss) n))) (cond v (Err Output) (Ok (length plan))))) ≡ Ok l → Accepted l
      go true t u v p q r h = never h
      go false true u v p q r h = never h
      go false false true v p q r h = never h
      go false false false true p q r h = never h
      go false false false false p q r h = record { fit = fit_of n ss p; words = ltb-false (lowest (word_out ss) n) n q; size = cc; fits = ltb-false room (length plan) r }

-- ---- both passes

module _ {n : ℕ} {ss : List Station} {out mid : List ℕ} {p q : Pen} {a : Result ℕ Refusal} (f : First n ss out mid p q) (answers : a ≡ answered q (length out)) where
  answer_is : a ≡ writing n ss (length out)
  unfolding answered
  answer_is = answers ∙ ap (λ (u : Pen). answered u (length out)) (pen_found f) ∙ go (Wrong n ss) refl
    where
      go : (t : Bool) → Wrong n ss ≡ t → answered (pen_at ss (m f) false (m f)) (length out) ≡ writing n ss (length out)
      go true e =
          let z : m f ≡ 0 = ap (λ (t : Bool). cond t 0 n) e in
          ap (λ (i : ℕ). answered (pen_at ss i false i) (length out)) z ∙ sym (shapeless n ss (length out) e)
      go false e =
          let z : m f ≡ n = ap (λ (t : Bool). cond t 0 n) e in
          ap (λ (i : ℕ). answered (pen_at ss i false i) (length out)) z ∙ judged n ss (length out) (fit_of n ss e) f.typed e

  -- a refusal leaves the output as it was
  pub refused : {e : Refusal} → a ≡ Err e → WritesPlan ss n out (Err e) mid
  refused h = writes_as (sym h ∙ answer_is) f.typed (out_found f)

  -- the second pass writes the plan
  pub written : {l : ℕ} {w r : Pen} {last : List ℕ} → a ≡ Ok l → w ≡ pen_of q.n true → drafted ss w.n (record { pen = w; out = mid }) ≡ record { pen = r; out = last }
      → WritesPlan ss n out (Ok l) last
  written {l} {w} {r} {last} e again pass =
      let y = accepted n ss (length out) l (sym answer_is ∙ e) in
      let z : m f ≡ n = wanted_fit y.fit in
      let s = short n ss (length out) y.fit f.typed y.words in
      let h = plan_length ss n y.fit.held s f.typed in
      let u : w ≡ pen_of (m f) true = again ∙ ap (λ (v : Pen). pen_of v.n true) (pen_found f) in
      writes_as (sym e ∙ answer_is) f.typed
      (sym (ap (λ (d : Draft). d.out) pass)
      ∙ ap (λ (v : Pen). (drafted ss v.n (record { pen = v; out = mid })).out) u
      ∙ ap (λ (ys : List ℕ). (drafted ss (m f) (record { pen = pen_of (m f) true; out = ys })).out) (out_found f)
      ∙ ap (λ (i : ℕ). (drafted ss i (record { pen = pen_of i true; out = out })).out) z
      ∙ wrote ss n y.fit.held s f.typed out y.fit.most (omega (arith, h, y.fits)) y.fit.some
      ∙ ap (λ (i : ℕ). plan_of (take n ss) ++ drop i out) (sym y.size))
