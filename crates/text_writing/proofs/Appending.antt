-- What is appended twice is appended as one.
use mathlib.Core.Path.{◌≡◌, refl, sym, ap, subst, ◌∙◌}
use mathlib.Core.Bool.{Bool, true, false}
use mathlib.Core.List.{List, [], ◌∷◌, ◌++◌, append_assoc}
use Prim.Native.Nat.{ℕ, suc, ◌+◌, ◌≤◌, ◌<◌}
use native.Mathlib.Omega.{arith}
use lib.Dec.{ltb}
use lib.ListN.{length, set, take, drop, length-append, length-take, length-drop, take-append-drop}
use lib.Seq.{length-take-le, take_at, drop_at, drop-drop, set_split}
use borrow.Author.Tests.{ltb-true, ltb-false}
use Rattle.text_writing.specs.Promises.{fitting, Appends}
use Rattle.text_writing.proofs.Fitting.{fit_length, all_fit, none_fit, fit_both}

-- by other words for the same bytes
pub read_as : {a b : List ℕ} {at : ℕ} {xs : List ℕ} {r : ℕ} {ys : List ℕ} → a ≡ b → Appends a at xs r ys → Appends b at xs r ys
read_as {a} {b} {at} {xs} {r} {ys} e p = subst (λ (t : List ℕ). Appends t at xs r ys) e p

pub same_size : {ws : List ℕ} {at : ℕ} {xs : List ℕ} {r : ℕ} {ys : List ℕ} → Appends ws at xs r ys → length ys ≡ length xs
same_size {ws} {at} {xs} p =
    let f = fitting ws at xs in
    let rest = drop (at + length f) xs in
    omega (
      arith,
      ap length p.written,
      length-append (take at xs) (f ++ rest),
      length-append f rest,
      length-take at xs,
      length-drop (at + length f) xs,
      fit_length ws at xs,
    )

-- ---- bytes that have room

pub whole : (ws : List ℕ) (at : ℕ) (xs : List ℕ) (r : ℕ) (ys : List ℕ) → at + length ws ≤ length xs
    → ys ≡ take at xs ++ (ws ++ drop (at + length ws) xs) → r ≡ at + length ws → Appends ws at xs r ys
whole ws at xs r ys room text end =
    let all = sym (all_fit ws at xs room) in
    record {
      written = text ∙ ap (λ (f : List ℕ). take at xs ++ (f ++ drop (at + length f) xs)) all;
      ends = end ∙ ap (λ (f : List ℕ). at + length f) all;
    }

pub whole_text : {ws : List ℕ} {at : ℕ} {xs : List ℕ} {r : ℕ} {ys : List ℕ} → at + length ws ≤ length xs → Appends ws at xs r ys
    → ys ≡ take at xs ++ (ws ++ drop (at + length ws) xs)
whole_text {ws} {at} {xs} room p = p.written ∙ ap (λ (f : List ℕ). take at xs ++ (f ++ drop (at + length f) xs)) (all_fit ws at xs room)

pub whole_end : {ws : List ℕ} {at : ℕ} {xs : List ℕ} {r : ℕ} {ys : List ℕ} → at + length ws ≤ length xs → Appends ws at xs r ys → r ≡ at + length ws
whole_end {ws} {at} {xs} room p = p.ends ∙ ap (λ (f : List ℕ). at + length f) (all_fit ws at xs room)

-- ---- bytes that have none

unchanged : (at : ℕ) (xs : List ℕ) → take at xs ++ ([] ++ drop (at + 0) xs) ≡ xs
unchanged at xs = ap (λ (n : ℕ). take at xs ++ drop n xs) (let z : at + 0 ≡ at = omega arith in z) ∙ take-append-drop at xs

-- no byte has room, or there is none
as_it_was : (ws : List ℕ) (at : ℕ) (xs : List ℕ) → fitting ws at xs ≡ [] → Appends ws at xs at xs
as_it_was ws at xs e =
    record {
      written = sym (ap (λ (f : List ℕ). take at xs ++ (f ++ drop (at + length f) xs)) e ∙ unchanged at xs);
      ends = let z : length (fitting ws at xs) ≡ 0 = ap length e in omega arith;
    }

pub nothing : (at : ℕ) (xs : List ℕ) → Appends [] at xs at xs
nothing at xs = as_it_was [] at xs (let z = fit_length [] at xs in empty (fitting [] at xs) (omega arith))
  where
    empty : (l : List ℕ) → length l ≡ 0 → l ≡ []
    empty [] e = refl
    empty (x ∷ l) e = absurd (omega arith)

pub no_room : (ws : List ℕ) (at : ℕ) (xs : List ℕ) → length xs ≤ at → Appends ws at xs at xs
no_room ws at xs h = as_it_was ws at xs (none_fit ws at xs h)

pub no_room_text : {ws : List ℕ} {at : ℕ} {xs : List ℕ} {r : ℕ} {ys : List ℕ} → length xs ≤ at → Appends ws at xs r ys → ys ≡ xs
no_room_text {ws} {at} {xs} h p =
    p.written ∙ ap (λ (f : List ℕ). take at xs ++ (f ++ drop (at + length f) xs)) (none_fit ws at xs h) ∙ unchanged at xs

pub no_room_end : {ws : List ℕ} {at : ℕ} {xs : List ℕ} {r : ℕ} {ys : List ℕ} → length xs ≤ at → Appends ws at xs r ys → r ≡ at
no_room_end {ws} {at} {xs} h p = let z = ap length (none_fit ws at xs h) in omega (arith, p.ends)

-- ---- one byte

pub one_byte : (b at : ℕ) (xs : List ℕ) → at < length xs → Appends (b ∷ []) at xs (at + 1) (set xs at b)
one_byte b at xs l =
    let text = set_split xs at b l ∙ ap (λ (n : ℕ). take at xs ++ (b ∷ drop n xs)) (let z : suc at ≡ at + 1 = omega arith in z) in
    whole (b ∷ []) at xs (at + 1) (set xs at b) (omega arith) text refl

-- ---- two after each other

laid : (a b : List ℕ) (at : ℕ) (xs ys : List ℕ) → at + length a ≤ length xs → ys ≡ take at xs ++ (a ++ drop (at + length a) xs)
    → take (at + length a) ys ++ (b ++ drop (at + length a + length b) ys) ≡ take at xs ++ (a ++ b ++ drop (at + length (a ++ b)) xs)
laid a b at xs ys fits e =
    let r = at + length a in
    let text : ys ≡ take at xs ++ a ++ drop r xs = e ∙ sym (append_assoc (take at xs) a (drop r xs)) in
    let front : length (take at xs ++ a) ≡ r = omega (arith, length-append (take at xs) a, length-take-le at xs (omega arith)) in
    let head : take r ys ≡ take at xs ++ a = ap (take r) text ∙ take_at (take at xs ++ a) (drop r xs) r front in
    let tail : drop r ys ≡ drop r xs = ap (drop r) text ∙ drop_at (take at xs ++ a) (drop r xs) r front in
    let rest : drop (r + length b) ys ≡ drop (at + length (a ++ b)) xs =
    sym (drop-drop (length b) r ys) ∙ ap (drop (length b)) tail ∙ drop-drop (length b) r xs
    ∙ ap (λ (n : ℕ). drop n xs) (let z : r + length b ≡ at + length (a ++ b) = omega (arith, length-append a b) in z) in
    ap (λ (l : List ℕ). l ++ (b ++ drop (r + length b) ys)) head
    ∙ ap (λ (l : List ℕ). take at xs ++ a ++ (b ++ l)) rest
    ∙ append_assoc (take at xs) a (b ++ drop (at + length (a ++ b)) xs)
    ∙ ap (λ (l : List ℕ). take at xs ++ l) (sym (append_assoc a b (drop (at + length (a ++ b)) xs)))

module _ {ws vs : List ℕ} {at : ℕ} {xs : List ℕ} {r : ℕ} {ys : List ℕ} {q : ℕ} {zs : List ℕ} (first : Appends ws at xs r ys)
    (next : Appends vs r ys q zs) where
  pub appends_join : Appends (ws ++ vs) at xs q zs
  appends_join = go (ltb at (length xs)) refl
    where
      size : length ys ≡ length xs
      size = same_size first

      within : at < length xs → Appends (ws ++ vs) at xs q zs
      within l =
          let a = fitting ws at xs in
          let b = fitting vs (at + length a) ys in
          let e : r ≡ at + length a = first.ends in
          let next-text : zs ≡ take (at + length a) ys ++ (b ++ drop (at + length a + length b) ys) =
          next.written ∙ ap (λ (n : ℕ). take n ys ++ (fitting vs n ys ++ drop (n + length (fitting vs n ys)) ys)) e in
          let next-end : q ≡ at + length a + length b = next.ends ∙ ap (λ (n : ℕ). n + length (fitting vs n ys)) e in
          let both : a ++ b ≡ fitting (ws ++ vs) at xs = sym (fit_both ws vs at xs ys size) in
          record {
            written =
                next-text ∙ laid a b at xs ys (omega (arith, fit_length ws at xs)) first.written
                ∙ ap (λ (f : List ℕ). take at xs ++ (f ++ drop (at + length f) xs)) both;
            ends = next-end ∙ omega (arith, length-append a b, ap length both);
          }

      beyond : length xs ≤ at → Appends (ws ++ vs) at xs q zs
      beyond l =
          let e = no_room_end l first in
          let h : length ys ≤ r = omega (arith, size) in
          let text : zs ≡ xs = no_room_text h next ∙ no_room_text l first in
          let end : q ≡ at = no_room_end h next ∙ e in
          subst (λ (n : ℕ). Appends (ws ++ vs) at xs n zs) (sym end)
          (subst (λ (t : List ℕ). Appends (ws ++ vs) at xs at t) (sym text) (no_room (ws ++ vs) at xs l))

      go : (t : Bool) → ltb at (length xs) ≡ t → Appends (ws ++ vs) at xs q zs
      go true t = within (ltb-true at (length xs) t)
      go false t = beyond (ltb-false at (length xs) t)
