-- Every line has room in 96 bytes.
use mathlib.Core.Path.{◌≡◌, refl, ◌∙◌}
use mathlib.Core.List.{List, [], ◌∷◌, ◌++◌}
use Prim.Native.Nat.{ℕ, ◌+◌, ◌^◌, ◌<◌, ◌≤◌}
use native.Mathlib.Omega.{arith}
use lib.ListN.{length, length-append}
use Rattle.std.specs.Prelude.{Option, Some, None, Result, Ok, Err}
use mir.Val.{Val}
use denote.Laws.{Is}
use denote.Enum.Declared as Enum
use denote.Struct.Declared as Struct
use Rattle.line.specs.contracts.Matter as M
use Rattle.line.specs.contracts.Event as E
use Rattle.line.specs.declared.Event.{Event}
use Rattle.line.specs.declared.Matter.{Matter}
use Rattle.line.specs.declared.Matter.TheVariants.{Read, Frame, Level}
use Rattle.line.specs.Matter.{kind_of, value_of}
use Rattle.bench_command.specs.declared.Output.{Output}
use Rattle.bench_command.specs.declared.Output.TheVariants as Out
use Rattle.bench_command.specs.Lines.{output_of, no_line, answer_line, entry_line}
use Rattle.bench_command.specs.TariffLine.{tariff_line}
use Rattle.bench_printing.specs.Promises.{Prints}
use Rattle.refusal.specs.declared.Refusal.{Refusal}
use Rattle.text.specs.Decimal.{decimal}
use Rattle.text.specs.Spaced.{spaced}
use Rattle.text.proofs.Places.{at_most_10, at_most_20}
use Rattle.text_writing.specs.Promises.{Appends}
use Rattle.text_writing.proofs.Appending.{whole, whole_text, whole_end}

-- one number after a word
one_more : (word : List ℕ) (v : ℕ) → length (word ++ (32 ∷ decimal v)) ≡ length word + (1 + length (decimal v))
one_more word v = length-append word (32 ∷ decimal v) ∙ omega arith

one : (word : List ℕ) (v : ℕ) → length word ≤ 7 → length (spaced word (v ∷ []) ++ 10 ∷ []) ≤ 96
unfolding spaced
one word v h = omega (arith, length-append (word ++ (32 ∷ decimal v)) (10 ∷ []), one_more word v, at_most_20 v, h)

two : (word : List ℕ) (v w : ℕ) → length word ≤ 7 → length (spaced word (v ∷ w ∷ []) ++ 10 ∷ []) ≤ 96
unfolding spaced
two word v w h =
    let front = word ++ (32 ∷ decimal v) in
    omega (arith, length-append (front ++ (32 ∷ decimal w)) (10 ∷ []), one_more front w, one_more word v, at_most_20 v, at_most_20 w, h)

pub answer_room : (r : Result Output Refusal) → length (answer_line r) ≤ 96
unfolding output_of no_line
answer_room (Ok (Out.Post number undone)) = two _ number undone (omega arith)
answer_room (Ok (Out.Retract undone)) = one _ undone (omega arith)
answer_room (Ok (Out.Run station undone)) = two _ station undone (omega arith)
answer_room (Ok (Out.Commit count)) = one _ count (omega arith)
answer_room (Err e) = one _ _ (omega arith)

pub no_room : (n : ℕ) → length (no_line n) ≤ 96
unfolding no_line
no_room n = one _ n (omega arith)

pub tariff_room : (t : Option ℕ) → length (tariff_line t) ≤ 96
unfolding tariff_line
tariff_room (Some sum) = one _ sum (omega arith)
tariff_room None = omega arith

-- ---- an entry of the log

kind_small : (m : Matter) → kind_of m < 2 ^ 32
kind_small Read = omega arith
kind_small (Frame origin repeats) = omega arith
kind_small (Level mm) = omega arith

value_small : (m : Matter) (vs : List Val) → Is (Enum.row M.the_type) m vs → value_of m < 2 ^ 32
value_small Read vs p = omega arith
value_small (Frame origin repeats) vs p = omega (arith, p.1.1.1.1.0.1, p.1.1.1.1.1.0.1)
value_small (Level mm) vs p = p.1.1.1.1.0.1

pub entry_room : (x : Event) (vs : List Val) → Is (Struct.row E.the_type) x vs → length (entry_line x) ≤ 96
unfolding spaced entry_line
entry_room x vs p =
    let fields = p.1.1 in
    let target : x.target < 2 ^ 16 = fields.1.0.1 in
    let source : x.source < 2 ^ 16 = fields.1.1.0.1 in
    let number : x.number < 2 ^ 32 = fields.1.1.1.0.1 in
    let value = value_small x.matter _ fields.1.1.1.1.0 in
    let a = decimal x.time in
    let b = a ++ (32 ∷ decimal x.target) in
    let c = b ++ (32 ∷ decimal (kind_of x.matter)) in
    let d = c ++ (32 ∷ decimal x.source) in
    let e = d ++ (32 ∷ decimal x.number) in
    let f = e ++ (32 ∷ decimal (value_of x.matter)) in
    let front : length d ≤ 53 =
    omega (
      arith,
      one_more a x.target,
      one_more b (kind_of x.matter),
      one_more c x.source,
      at_most_20 x.time,
      at_most_10 x.target (omega (arith, target)),
      at_most_10 _ (kind_small x.matter),
      at_most_10 x.source (omega (arith, source)),
    ) in
    omega
    (arith, length-append f (10 ∷ []), one_more d x.number, one_more e (value_of x.matter), front, at_most_10 _ number, at_most_10 _ value)

-- ---- the two cases of a buffer

-- a line that has room is printed
pub printed : (ws : List ℕ) (at : ℕ) (xs : List ℕ) (r : ℕ) (ys : List ℕ) → length ws ≤ 96 → at + 96 ≤ length xs → Appends ws at xs r ys
    → Prints ws at xs r ys
printed ws at xs r ys room long p =
    record {
      short = λ h. absurd (omega (arith, h, long));
      written = λ h. whole_text (omega (arith, room, h)) p;
      ends = λ h. whole_end (omega (arith, room, h)) p;
      most = omega (arith, whole_end (omega (arith, room, long)) p, room);
    }

pub too_short : (ws : List ℕ) (at : ℕ) (xs : List ℕ) → length xs < at + 96 → Prints ws at xs at xs
too_short ws at xs h =
    record {
      short = λ l. (refl, refl);
      written = λ l. absurd (omega (arith, h, l));
      ends = λ l. absurd (omega (arith, h, l));
      most = omega arith;
    }

-- ---- a line that was printed with room: it is one of 96 bytes at most, and is appended

pub line_most : {ws : List ℕ} {at : ℕ} {xs : List ℕ} {r : ℕ} {ys : List ℕ} → at + 96 ≤ length xs → Prints ws at xs r ys → length ws ≤ 96
line_most room p = omega (arith, p.ends room, p.most)

pub appended : {ws : List ℕ} {at : ℕ} {xs : List ℕ} {r : ℕ} {ys : List ℕ} → at + 96 ≤ length xs → Prints ws at xs r ys → Appends ws at xs r ys
appended room p = whole _ _ _ _ _ (omega (arith, line_most room p, room)) (p.written room) (p.ends room)
