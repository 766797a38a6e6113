-- Each answer is a word with one number or two, and so is a refusal.
use mathlib.Core.Path.{sym, ap, ◌∙◌}
use mathlib.Core.List.{[], ◌∷◌, ◌++◌}
use Prim.Native.Nat.{ℕ}
use Rattle.bench_command.specs.Lines.{no_word, output_of, no_line, answer_line}
use Rattle.text.specs.Spaced.{spaced}
use Rattle.text_writing.proofs.Appending.{read_as}
use Rattle.bench_printing.proofs.fill.Goals as goal

pub returns-in-Ok-Post : goal.returns-in-Ok-Post
unfolding output_of
returns-in-Ok-Post c =
    let w = c.in-Ok-Post in
    read_as (sym (ap answer_line w.is ∙ ap output_of (rw w.is at w.field-0-is))) c.fill_line.ensures

pub returns-in-Ok-Retract : goal.returns-in-Ok-Retract
unfolding output_of
returns-in-Ok-Retract c =
    let w = c.in-Ok-Retract in
    read_as (sym (ap answer_line w.is ∙ ap output_of (rw w.is at w.field-0-is))) c.fill_line-in-Ok-Retract.ensures

pub returns-in-Ok-Run : goal.returns-in-Ok-Run
unfolding output_of
returns-in-Ok-Run c =
    let w = c.in-Ok-Run in
    read_as (sym (ap answer_line w.is ∙ ap output_of (rw w.is at w.field-0-is))) c.fill_line-in-Ok-Run.ensures

pub returns-in-Ok-Commit : goal.returns-in-Ok-Commit
unfolding output_of
returns-in-Ok-Commit c =
    let w = c.in-Ok-Commit in
    read_as (sym (ap answer_line w.is ∙ ap output_of (rw w.is at w.field-0-is))) c.fill_line-in-Ok-Commit.ensures

pub returns-in-Err : goal.returns-in-Err
unfolding no_line
returns-in-Err c =
    read_as (ap (λ (n : ℕ). spaced no_word (n ∷ []) ++ 10 ∷ []) c.number.ensures ∙ sym (ap answer_line c.in-Err.is)) c.fill_line-in-Err.ensures
