-- What is done for a command, a line and a plan, from what the calls promise.
use mathlib.Core.Path.{◌≡◌, refl, sym, ap, subst, ◌∙◌}
use mathlib.Core.List.{List, [], ◌++◌}
use Prim.Native.Nat.{ℕ, ◌≤◌, ◌<◌}
use native.Mathlib.Omega.{arith}
use lib.ListN.{length, replicate, length-replicate}
use Rattle.std.specs.Prelude.{Result, Ok, Err}
use Rattle.refusal.specs.declared.Refusal.{Refusal}
use Rattle.refusal.specs.Numbers.{number_of}
use Rattle.rules.specs.Engine.{Answer}
use Rattle.engine_promises.specs.Promises.{Opens, Answered}
use Rattle.bench_command.specs.declared.Command.{Command}
use Rattle.bench_command.specs.declared.Output.{Output}
use Rattle.bench_command.specs.Lines.{no_line, answer_line, Asks, Refuses, parsed_said}
use Rattle.bench_parsing.specs.Promises.{Parses}
use Rattle.bench_printing.specs.Promises.{Prints}
use Rattle.bench_answers.specs.Shown.{call_of, entry_lines, lines_of, open_lines}
use Rattle.bench_answers.specs.Promises.{Written, InText, OpensBench, Obeyed, Replied, obeyed, unread}
use Rattle.bench_answers.specs.Steps.{AsksEngine, entries_in}
use Rattle.bench_answers.proofs.Printed.{one_line}

-- a command by another name, asked with that answer
pub asks_as : {c d : Command} {output xs ys left : List ℕ} {r : Result Output Refusal} → c ≡ d → (said : Answer) → Answered (call_of d output) said xs ys
    → lines_of said ≡ entry_lines (entries_in r) left ++ answer_line r → AsksEngine c output xs r ys left
asks_as {output = output} {xs = xs} {ys = ys} e said A l =
    record { said = said; answered = subst (λ (x : Command). Answered (call_of x output) said xs ys) (sym e) A; lines = l }

-- ---- a text that has room, or not

-- with a short text nothing is done
pub nothing_done : (done : List ℕ → Type 0) (xs before : List ℕ) → length before < 6240 → InText done xs before 0 xs before
nothing_done done xs before h = record {
  short = λ l. (refl, refl, refl);
  printed = [];
  lines = λ l. absurd (omega arith);
  written = λ l. absurd (omega arith);
}

-- with a long one it is
pub is_done : {done : List ℕ → Type 0} {xs before : List ℕ} {r : ℕ} {ys after : List ℕ} (printed : List ℕ) → 6240 ≤ length before → done printed
    → Written printed before r after → InText done xs before r ys after
is_done printed room d w = record {
  short = λ l. absurd (omega arith);
  printed = printed;
  lines = λ l. d;
  written = λ l. w;
}

-- a command that is obeyed
pub obeys_in_text : {c : Command} {a : Result Output Refusal} {xs ys left before : List ℕ} {r : ℕ} {after : List ℕ} → 6240 ≤ length before
    → AsksEngine c (replicate 1536 0) xs a ys left → Written (entry_lines (entries_in a) left ++ answer_line a) before r after
    → InText (Obeyed c xs ys) xs before r ys after
obeys_in_text {a = a} {left = left} room A w =
    is_done (entry_lines (entries_in a) left ++ answer_line a) room
    (record { output = replicate 1536 0; size = length-replicate {A = ℕ} 1536 0; said = A.said; answered = A.answered; lines = sym A.lines }) w

-- ---- a line

module _ {line xs before : List ℕ} {r : ℕ} {p : Result Command Refusal} (room : 6240 ≤ length before) (P : Parses line p) where
  pub replies : {ys after : List ℕ} (c : Command) → p ≡ Ok c → InText (Obeyed c xs ys) xs before r ys after → InText (Replied line xs ys) xs before r ys after
  replies c e I =
      let q = P.accepted c (ap parsed_said e) in
      is_done I.printed room (obeyed c q.1 q.0 (I.lines room)) (I.written room)

  pub replies_8 : {after : List ℕ} (e : Refusal) → p ≡ Err e → Prints (no_line (number_of e)) 0 before r after → InText (Replied line xs xs) xs before r xs after
  replies_8 {after} e q w =
      let said : parsed_said p ≡ Refuses (number_of e) = ap parsed_said q in
      let n : number_of e ≡ 8 = P.refused (number_of e) said in
      is_done (no_line 8) room
      (unread (λ c f l. let a : Asks c ≡ Refuses (number_of e) = sym (P.accepts c f l) ∙ said in let z : ◌≡◌ {A = ℕ} 0 1 = cc in absurd (omega arith)))
      (subst (λ (x : ℕ). Written (no_line x) before r after) n (one_line (omega arith) w))

-- ---- the opening

module _ {plan xs before ys : List ℕ} {a : Result Unit Refusal} (room : 6240 ≤ length before) (O : Opens plan 16 64 64 xs a ys) where
  pub opens_done : {done : Unit} → a ≡ Ok done → InText (OpensBench plan xs ys) xs before 0 ys before
  unfolding open_lines
  opens_done e = is_done [] room (record { answer = a; opens = O; lines = sym (ap open_lines e) }) (record { text = refl; ends = refl })

  pub opens_refused : {r : ℕ} {after : List ℕ} (e : Refusal) → a ≡ Err e → Prints (no_line (number_of e)) 0 before r after
      → InText (OpensBench plan xs ys) xs before r ys after
  unfolding open_lines
  opens_refused e q w =
      is_done (no_line (number_of e)) room (record { answer = a; opens = O; lines = sym (ap open_lines q) }) (one_line (omega arith) w)
