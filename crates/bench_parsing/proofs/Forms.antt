-- The five forms of a command line: two bytes say which form a line has, and its numbers are those of one command.
use mathlib.Core.Path.{◌≡◌, refl, sym, ap, ◌∙◌}
use mathlib.Core.List.{[], ◌∷◌, ◌++◌}
use Prim.Native.Nat.{ℕ}
use native.Mathlib.Omega.{arith}
use lib.ListN.{get_or, drop}
use Rattle.text.specs.Spaced.{spaced}
use Rattle.text_reading.proofs.Inverse.{one_decimal}
use Rattle.text_reading.proofs.Chains.{tail, spaced_tail, one_tail}
use Rattle.bench_command.specs.declared.Command.{Command}
use Rattle.bench_command.specs.declared.Command.TheVariants.{Post, Retract, Run, RunStation, Commit}
use Rattle.bench_command.specs.Lines.{post_word, command_line, FitsAll}

-- each space and each number, one after the other
pub post_line : (s t k v : ℕ) → command_line (Post s t k v) ≡ post_word ++ tail (s ∷ t ∷ k ∷ v ∷ [])
unfolding command_line
post_line s t k v = spaced_tail post_word (s ∷ t ∷ k ∷ v ∷ [])

-- its second byte says whether a line is one of the two with the word run, its fourth which of the five it is
abbrev pub second_of : Command → ℕ
second_of (Post s t k v) = 111
second_of (Retract n) = 101
second_of Run = 117
second_of (RunStation n) = 117
second_of (Commit n) = 111

abbrev pub fourth_of : Command → ℕ
fourth_of (Post s t k v) = 116
fourth_of (Retract n) = 114
fourth_of Run = 0
fourth_of (RunStation n) = 32
fourth_of (Commit n) = 109

pub second : (c : Command) → get_or (command_line c) 1 0 ≡ second_of c
unfolding command_line spaced
second (Post s t k v) = refl
second (Retract n) = refl
second Run = refl
second (RunStation n) = refl
second (Commit n) = refl

pub fourth : (c : Command) → get_or (command_line c) 3 0 ≡ fourth_of c
unfolding command_line spaced
fourth (Post s t k v) = refl
fourth (Retract n) = refl
fourth Run = refl
fourth (RunStation n) = refl
fourth (Commit n) = refl

-- the numbers of two lines of one form
pub same : (a b : Command) → FitsAll a → FitsAll b → command_line a ≡ command_line b → fourth_of a ≡ fourth_of b → a ≡ b
unfolding command_line spaced
same (Post s t k v) (Post s' t' k' v') f g e z =
    let h =
    one_tail (s ∷ t ∷ k ∷ v ∷ []) (s' ∷ t' ∷ k' ∷ v' ∷ []) ((f.0, (f.1, (f.2, (f.3, tt))))) ((g.0, (g.1, (g.2, (g.3, tt)))))
    (ap (drop 4) (sym (post_line s t k v) ∙ e ∙ post_line s' t' k' v')) in
    cc
same (Retract n) (Retract m) f g e z = ap Retract (one_decimal n m f g (ap (drop 8) e))
same Run Run f g e z = refl
same (RunStation n) (RunStation m) f g e z = ap RunStation (one_decimal n m f g (ap (drop 4) e))
same (Commit n) (Commit m) f g e z = ap Commit (one_decimal n m f g (ap (drop 7) e))
same (Post s t k v) (Retract m) f g e z = absurd (omega arith)
same (Post s t k v) Run f g e z = absurd (omega arith)
same (Post s t k v) (RunStation m) f g e z = absurd (omega arith)
same (Post s t k v) (Commit m) f g e z = absurd (omega arith)
same (Retract n) (Post s' t' k' v') f g e z = absurd (omega arith)
same (Retract n) Run f g e z = absurd (omega arith)
same (Retract n) (RunStation m) f g e z = absurd (omega arith)
same (Retract n) (Commit m) f g e z = absurd (omega arith)
same Run (Post s' t' k' v') f g e z = absurd (omega arith)
same Run (Retract m) f g e z = absurd (omega arith)
same Run (RunStation m) f g e z = absurd (omega arith)
same Run (Commit m) f g e z = absurd (omega arith)
same (RunStation n) (Post s' t' k' v') f g e z = absurd (omega arith)
same (RunStation n) (Retract m) f g e z = absurd (omega arith)
same (RunStation n) Run f g e z = absurd (omega arith)
same (RunStation n) (Commit m) f g e z = absurd (omega arith)
same (Commit n) (Post s' t' k' v') f g e z = absurd (omega arith)
same (Commit n) (Retract m) f g e z = absurd (omega arith)
same (Commit n) Run f g e z = absurd (omega arith)
same (Commit n) (RunStation m) f g e z = absurd (omega arith)
