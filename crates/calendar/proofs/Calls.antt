-- On the bytes that an opening and any calls after it left, every call answers by the rules' state of these calls.
use mathlib.Core.Path.{◌≡◌, refl, sym, ap, ◌∙◌, subst}
use mathlib.Core.List.{List}
use Prim.Native.Nat.{ℕ}
use Rattle.refusal.specs.Tests.{Check, judged}
use Rattle.std.specs.Prelude.{Result, Ok, Err, IfOk}
use Rattle.refusal.specs.declared.Refusal.{Refusal}
use Rattle.calendar_answers.specs.declared.Least.{Least}
use Rattle.calendar_header.specs.Rules.{Calendar, lowest_checks, LeastAt, words_of, unregistered, registered_at, advanced}
use Rattle.calendar_header.specs.Bytes.{Sound, state_of}
use Rattle.calendar_header.specs.Promises.{verdict_of, Obeys, Names}
use Rattle.calendar.specs.Left.{Left, by_open, by_register, by_unregister, by_extract, by_advance, by_refusal, by_none, by_no_open}

-- the bytes are a calendar's and stand for that state
pub left : {xs : List ℕ} {q : Calendar} → Left xs q → Sound xs × (state_of xs ≡ q)
left (by_open n a w P) = (P.sound, P.state)
left (by_register s t L P) = let H = left L in (P.sound H.0, P.state H.0 ∙ ap (λ (p : Calendar). registered_at p s t) H.1)
left (by_unregister s L P) = let H = left L in (P.sound H.0, P.state H.0 ∙ ap (λ (p : Calendar). unregistered p s) H.1)
left (by_extract a L P) = let H = left L in (P.sound H.0, P.state H.0 ∙ ap (λ (p : Calendar). unregistered p a.station) H.1)
left (by_advance f L P) = let H = left L in (P.sound H.0, P.state H.0 ∙ ap (λ (p : Calendar). advanced p f) H.1)
left (by_refusal e checks after L P) = let H = left L in (P.sound H.0, ap state_of (P.refusal) ∙ H.1)
left (by_none e L P) = let H = left L in (P.sound H.0, ap state_of (P.refusal) ∙ H.1)
left (by_no_open e n a w L P) = let H = left L in let k = P.refusal in (subst Sound (sym k) H.0, ap state_of k ∙ H.1)

-- register, unregister and advance are judged by it
pub left_answer : {xs ys : List ℕ} {q : Calendar} {checks : Calendar → List Check} {after : Calendar → Calendar} {r : Result Unit Refusal} → Left xs q
    → Obeys checks after xs r ys → verdict_of r ≡ judged (checks q)
left_answer {checks = checks} L P = let H = left L in P.answer H.0 ∙ ap (λ (p : Calendar). judged (checks p)) H.1

-- and so are lowest and extract, and the count is that of it
pub left_names : {xs : List ℕ} {q : Calendar} {r : Result Least Refusal} → Left xs q → Names xs r
    → (verdict_of r ≡ judged (lowest_checks q)) × IfOk r (λ a. LeastAt q.times a.station a.time × (a.words ≡ words_of q))
left_names {xs = xs} {q = q} {r = r} L P =
    let H = left L in
    (P.answer H.0 ∙ ap (λ (p : Calendar). judged (lowest_checks p)) H.1, go r (P.least H.0) (P.words H.0))
  where
    go : (x : Result Least Refusal) → IfOk x (λ a. LeastAt (state_of xs).times a.station a.time) → IfOk x (λ a. a.words ≡ words_of (state_of xs))
        → IfOk x (λ a. LeastAt q.times a.station a.time × (a.words ≡ words_of q))
    go (Ok a) l w = (subst (λ (p : Calendar). LeastAt p.times a.station a.time) (left L).1 l, w ∙ ap words_of (left L).1)
    go (Err e) l w = tt
