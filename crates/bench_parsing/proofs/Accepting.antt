-- A line is accepted as the command whose line it is, and refused where it is the line of none: its word says which commands are left.
use mathlib.Core.Path.{◌≡◌, refl, sym, ap, ◌∙◌}
use mathlib.Core.List.{List, [], ◌∷◌, ◌++◌}
use Prim.Native.Nat.{ℕ}
use native.Mathlib.Omega.{arith}
use lib.ListN.{length, get_or, drop}
use lib.Seq.{drop-length}
use Rattle.std.specs.Prelude.{Result, Ok, Err}
use Rattle.refusal.specs.declared.Refusal.{Refusal}
use Rattle.refusal.specs.declared.Refusal.TheVariants as R
use Rattle.text.specs.Decimal.{decimal, Fits}
use Rattle.text.specs.Spaced.{spaced}
use Rattle.text_reading.proofs.Chains.{tail}
use Rattle.bench_command.specs.declared.Command.{Command}
use Rattle.bench_command.specs.declared.Command.TheVariants.{Post, Retract, Run, RunStation, Commit}
use Rattle.bench_command.specs.Lines.{post_word, retract_word, run_word, commit_word, command_line, FitsAll, Asks}
use Rattle.bench_parsing.specs.Promises.{Parses}
use Rattle.bench_parsing.specs.Steps.{Reads}
use Rattle.bench_parsing.proofs.Forms.{post_line, second_of, fourth_of, second, fourth}
use Rattle.bench_parsing.proofs.Inverse.{one_line}

-- the line's command, or refusal 8
pub parses : (xs : List ℕ) (r : Result Command Refusal) → Reads xs r → Parses xs r
parses xs (Ok c) p =
    record {
      accepts = λ d g q. ap Asks (one_line c d p.0 g (sym p.1 ∙ q));
      accepted = λ d q. let h : c ≡ d = cc in rw (← h) ((p.1, p.0));
      refused = λ n q. let h : ◌≡◌ {A = ℕ} 0 1 = cc in absurd (omega arith);
    }
parses xs (Err e) p =
    rw p.0
    (record {
      accepts = λ c f q. absurd (p.1 c f q);
      accepted = λ c q. let z : ◌≡◌ {A = ℕ} 0 1 = cc in absurd (omega arith);
      refused = λ n q. let z : 8 ≡ n = cc in sym z;
    })

-- ---- by the word

module _ (xs : List ℕ) where
  pub refuses_post : xs ≡ post_word ++ drop 4 xs → ((s t k v : ℕ) → Fits s × Fits t × Fits k × Fits v
      → drop 4 xs ≡ tail (s ∷ t ∷ k ∷ v ∷ []) → ⊥) → Reads xs (Err R.Command)
  refuses_post w h = (refl, λ c f e. no c f e (sym (ap (λ (l : List ℕ). get_or l 3 0) w) ∙ ap (λ (l : List ℕ). get_or l 3 0) e ∙ fourth c))
    where
      no : (c : Command) → FitsAll c → xs ≡ command_line c → 116 ≡ fourth_of c → ⊥
      no (Post s t k v) f e z = h s t k v f (ap (drop 4) (e ∙ post_line s t k v))
      no (Retract n) f e z = omega arith
      no Run f e z = omega arith
      no (RunStation n) f e z = omega arith
      no (Commit n) f e z = omega arith

  pub refuses_retract : xs ≡ retract_word ++ drop 7 xs → ((n : ℕ) → Fits n → drop 7 xs ≡ 32 ∷ decimal n → ⊥) → Reads xs (Err R.Command)
  unfolding command_line spaced
  refuses_retract w h = (refl, λ c f e. no c f e (sym (ap (λ (l : List ℕ). get_or l 3 0) w) ∙ ap (λ (l : List ℕ). get_or l 3 0) e ∙ fourth c))
    where
      no : (c : Command) → FitsAll c → xs ≡ command_line c → 114 ≡ fourth_of c → ⊥
      no (Post s t k v) f e z = omega arith
      no (Retract n) f e z = h n f (ap (drop 7) e)
      no Run f e z = omega arith
      no (RunStation n) f e z = omega arith
      no (Commit n) f e z = omega arith

  pub refuses_run : xs ≡ run_word ++ drop 3 xs → (length xs ≡ 3 → ⊥) → ((n : ℕ) → Fits n → drop 3 xs ≡ 32 ∷ decimal n → ⊥) → Reads xs (Err R.Command)
  unfolding command_line spaced
  refuses_run w l h = (refl, λ c f e. no c f e (sym (ap (λ (l : List ℕ). get_or l 1 0) w) ∙ ap (λ (l : List ℕ). get_or l 1 0) e ∙ second c))
    where
      no : (c : Command) → FitsAll c → xs ≡ command_line c → 117 ≡ second_of c → ⊥
      no (Post s t k v) f e z = omega arith
      no (Retract n) f e z = omega arith
      no Run f e z = l (ap length e)
      no (RunStation n) f e z = h n f (ap (drop 3) e)
      no (Commit n) f e z = omega arith

  pub refuses_commit : xs ≡ commit_word ++ drop 6 xs → ((n : ℕ) → Fits n → drop 6 xs ≡ 32 ∷ decimal n → ⊥) → Reads xs (Err R.Command)
  unfolding command_line spaced
  refuses_commit w h = (refl, λ c f e. no c f e (sym (ap (λ (l : List ℕ). get_or l 3 0) w) ∙ ap (λ (l : List ℕ). get_or l 3 0) e ∙ fourth c))
    where
      no : (c : Command) → FitsAll c → xs ≡ command_line c → 109 ≡ fourth_of c → ⊥
      no (Post s t k v) f e z = omega arith
      no (Retract n) f e z = omega arith
      no Run f e z = omega arith
      no (RunStation n) f e z = omega arith
      no (Commit n) f e z = h n f (ap (drop 6) e)

  -- none of the words
  pub refuses_words : ((rest : List ℕ) → xs ≡ post_word ++ rest → ⊥) → ((rest : List ℕ) → xs ≡ retract_word ++ rest → ⊥)
      → ((rest : List ℕ) → xs ≡ run_word ++ rest → ⊥) → ((rest : List ℕ) → xs ≡ commit_word ++ rest → ⊥) → Reads xs (Err R.Command)
  unfolding command_line spaced
  refuses_words p r u c = (refl, no)
    where
      no : (c : Command) → FitsAll c → xs ≡ command_line c → ⊥
      no (Post s t k v) f e = p _ (e ∙ post_line s t k v)
      no (Retract n) f e = r (32 ∷ decimal n) e
      no Run f e = u [] e
      no (RunStation n) f e = u (32 ∷ decimal n) e
      no (Commit n) f e = c (32 ∷ decimal n) e

  pub takes_post : xs ≡ post_word ++ drop 4 xs → (s t k v : ℕ) → Fits s × Fits t × Fits k × Fits v → drop 4 xs ≡ tail (s ∷ t ∷ k ∷ v ∷ [])
      → Reads xs (Ok (Post s t k v))
  takes_post w s t k v f e = (f, w ∙ ap (λ (l : List ℕ). post_word ++ l) e ∙ sym (post_line s t k v))

  pub takes_retract : xs ≡ retract_word ++ drop 7 xs → (n : ℕ) → Fits n → drop 7 xs ≡ 32 ∷ decimal n → Reads xs (Ok (Retract n))
  unfolding command_line spaced
  takes_retract w n f e = (f, w ∙ ap (λ (l : List ℕ). retract_word ++ l) e)

  pub takes_run : xs ≡ run_word ++ drop 3 xs → length xs ≡ 3 → Reads xs (Ok Run)
  unfolding command_line
  takes_run w l = (tt, w ∙ ap (λ (l : List ℕ). run_word ++ l) (ap (λ (n : ℕ). drop n xs) (sym l) ∙ drop-length xs))

  pub takes_station : xs ≡ run_word ++ drop 3 xs → (n : ℕ) → Fits n → drop 3 xs ≡ 32 ∷ decimal n → Reads xs (Ok (RunStation n))
  unfolding command_line spaced
  takes_station w n f e = (f, w ∙ ap (λ (l : List ℕ). run_word ++ l) e)

  pub takes_commit : xs ≡ commit_word ++ drop 6 xs → (n : ℕ) → Fits n → drop 6 xs ≡ 32 ∷ decimal n → Reads xs (Ok (Commit n))
  unfolding command_line spaced
  takes_commit w n f e = (f, w ∙ ap (λ (l : List ℕ). commit_word ++ l) e)
