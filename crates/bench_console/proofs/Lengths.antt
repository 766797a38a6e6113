-- No command has a line of more than 88 bytes; so the front of a longer line says all that the line does.
use mathlib.Core.Path.{ap, subst}
use mathlib.Core.List.{List, [], ◌∷◌, ◌++◌}
use Prim.Native.Nat.{ℕ, ◌+◌, ◌*◌, ◌≤◌, ◌<◌}
use native.Mathlib.Decide.{dec_lt}
use native.Mathlib.Omega.{arith}
use lib.ListN.{length, take, length-append}
use lib.Seq.{length-take-le, take_all}
use Rattle.bench_command.specs.declared.Command.{Command}
use Rattle.bench_command.specs.declared.Command.TheVariants.{Post, Retract, Run, RunStation, Commit}
use Rattle.text.specs.Decimal.{decimal}
use Rattle.text.specs.Spaced.{spaced}
use Rattle.bench_command.specs.Lines.{post_word, retract_word, run_word, commit_word, command_line}
use Rattle.text.proofs.Places.{at_most_20}
use Rattle.bench_answers.specs.Promises.{Replied, obeyed, unread}

spaced_most : (word ns : List ℕ) → length (spaced word ns) ≤ length word + 21 * length ns
unfolding spaced
spaced_most word [] = omega arith
spaced_most word (n ∷ ns) =
    omega (arith, spaced_most (word ++ (32 ∷ decimal n)) ns, length-append word (32 ∷ decimal n), at_most_20 n)

pub command_most : (c : Command) → length (command_line c) ≤ 88
unfolding command_line
command_most (Post station time kind value) = omega (arith, spaced_most post_word (station ∷ time ∷ kind ∷ value ∷ []))
command_most (Retract number) = omega (arith, spaced_most retract_word (number ∷ []))
command_most Run = omega arith
command_most (RunStation station) = omega (arith, spaced_most run_word (station ∷ []))
command_most (Commit time) = omega (arith, spaced_most commit_word (time ∷ []))

long_line : {front rest xs ys printed : List ℕ} → 88 < length front → 88 < length rest → Replied front xs ys printed → Replied rest xs ys printed
long_line f r (obeyed c g e O) = absurd (omega (arith, f, ap length e, command_most c))
long_line f r (unread u) = unread (λ c g e. omega (arith, r, ap length e, command_most c))

-- a line by its front of 128 bytes or more
pub by_front : (n : ℕ) (rest : List ℕ) {xs ys printed : List ℕ} → 128 ≤ n → Replied (take n rest) xs ys printed → Replied rest xs ys printed
by_front n rest {xs} {ys} {printed} h R = go (dec_lt n (length rest))
  where
    go : Dec (n < length rest) → Replied rest xs ys printed
    go (yes l) = long_line (omega (arith, length-take-le n rest (omega arith))) (omega arith) R
    go (no m) = subst (λ (l : List ℕ). Replied l xs ys printed) (take_all n rest (omega (arith, m))) R
