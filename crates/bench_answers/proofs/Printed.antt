-- Lines that are printed one after the other into a text that has room for all.
use mathlib.Core.Path.{◌≡◌, sym, ap, subst, ◌∙◌}
use mathlib.Core.List.{List, ◌++◌}
use Prim.Native.Nat.{ℕ, suc, ◌+◌, ◌*◌, ◌≤◌}
use native.Mathlib.Omega.{arith}
use native.Mathlib.Numerals.{add-one}
use lib.ListN.{length, drop, length-append}
use Rattle.std.specs.Prelude.{Result, Ok, Err}
use Rattle.line.specs.declared.Event.{Event}
use Rattle.refusal.specs.declared.Refusal.{Refusal}
use Rattle.entry.specs.Entry.{event_at}
use Rattle.text_writing.specs.Promises.{Appends}
use Rattle.text_writing.proofs.Appending.{nothing, appends_join, same_size, whole_text, whole_end}
use Rattle.bench_command.specs.declared.Output.{Output}
use Rattle.bench_command.specs.declared.Output.TheVariants as Out
use Rattle.bench_command.specs.Lines.{answer_line, entry_line}
use Rattle.bench_printing.specs.Promises.{Prints}
use Rattle.bench_printing.proofs.Room.{line_most, appended}
use Rattle.bench_answers.specs.Shown.{entry_lines}
use Rattle.bench_answers.specs.Promises.{Written}
use Rattle.bench_answers.specs.Steps.{entries_in}

-- one line alone
pub one_line : {ws xs : List ℕ} {r : ℕ} {ys : List ℕ} → 96 ≤ length xs → Prints ws 0 xs r ys → Written ws xs r ys
one_line {ws} {xs} room p =
    record {
      text = p.written (omega arith) ∙ ap (λ (n : ℕ). ws ++ drop n xs) (let z : 0 + length ws ≡ length ws = omega arith in z);
      ends = p.ends (omega arith) ∙ omega arith;
    }

-- ---- the lines of k entries

pub at_most_64 : (r : Result Output Refusal) → entries_in r ≤ 64
at_most_64 (Ok (Out.Post number undone)) = omega arith
at_most_64 (Ok (Out.Retract undone)) = omega arith
at_most_64 (Ok (Out.Run station undone)) = omega arith
at_most_64 (Ok (Out.Commit count)) = omega arith
at_most_64 (Err e) = omega arith

pub record EntryLines (out before : List ℕ) (k at : ℕ) (text : List ℕ) : Type 0 where
  pub most : length (entry_lines k out) ≤ 96 * k
  pub lines : Appends (entry_lines k out) 0 before at text

pub none_yet : (out text : List ℕ) → EntryLines out text 0 0 text
unfolding entry_lines
none_yet out text = record { most = omega arith; lines = nothing 0 text }

module _ (out before : List ℕ) (k at : ℕ) (text : List ℕ) (room : 6240 ≤ length before) (E : EntryLines out before k at text) where
  at_is : k ≤ 64 → at ≡ length (entry_lines k out)
  at_is h = whole_end (omega (arith, E.most)) E.lines ∙ omega arith

  has_room : k ≤ 64 → at + 96 ≤ length text
  has_room h = omega (arith, at_is h, E.most, same_size E.lines)

  module _ (small : k ≤ 63) (e : Event) (ee : e ≡ event_at (24 * k) out) (r : ℕ) (ys : List ℕ) (p : Prints (entry_line e) at text r ys) where
    q : Prints (entry_line (event_at (24 * k) out)) at text r ys
    q = subst (λ (x : Event). Prints (entry_line x) at text r ys) ee p

    more : EntryLines out before (suc k) r ys
    unfolding entry_lines
    more = record {
      most =
          omega (arith, E.most, length-append (entry_lines k out) (entry_line (event_at (24 * k) out)), line_most (has_room (omega arith)) q);
      lines = appends_join E.lines (appended (has_room (omega arith)) q);
    }

    pub one_more : EntryLines out before (k + 1) r ys
    one_more = subst (λ (j : ℕ). EntryLines out before j r ys) (sym (add-one k)) more

  pub then_answer : (r : Result Output Refusal) (end : ℕ) (ys : List ℕ) → k ≡ entries_in r → Prints (answer_line r) at text end ys
      → Written (entry_lines (entries_in r) out ++ answer_line r) before end ys
  then_answer r end ys ek p =
      let small : k ≤ 64 = omega (arith, ek, at_most_64 r) in
      let ws = entry_lines k out ++ answer_line r in
      let A : Appends ws 0 before end ys = appends_join E.lines (appended (has_room small) p) in
      let all : length ws ≤ 6240 = omega (arith, E.most, length-append (entry_lines k out) (answer_line r), line_most (has_room small) p) in
      subst (λ (j : ℕ). Written (entry_lines j out ++ answer_line r) before end ys) ek
      (record {
        text = whole_text (omega (arith, all)) A ∙ ap (λ (n : ℕ). ws ++ drop n before) (let z : 0 + length ws ≡ length ws = omega arith in z);
        ends = whole_end (omega (arith, all)) A ∙ omega arith;
      })
