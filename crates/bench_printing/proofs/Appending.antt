-- A line is a word, numbers after it, and its end.
use mathlib.Core.Path.{◌≡◌, refl, sym, ap, ◌∙◌}
use mathlib.Core.List.{List, [], ◌∷◌, ◌++◌, append_assoc, append-nil}
use Prim.Native.Nat.{ℕ}
use Rattle.text.specs.Decimal.{decimal}
use Rattle.text.specs.Spaced.{spaced}

-- one number more
pub spaced_more : (word ns : List ℕ) (n : ℕ) → spaced word (ns ++ (n ∷ [])) ≡ spaced word ns ++ (32 ∷ decimal n)
unfolding spaced
spaced_more word [] n = refl
spaced_more word (m ∷ ns) n = spaced_more (word ++ (32 ∷ decimal m)) ns n

-- the word stands in front
spaced_front : (word rest ns : List ℕ) → word ++ spaced rest ns ≡ spaced (word ++ rest) ns
unfolding spaced
spaced_front word rest [] = refl
spaced_front word rest (n ∷ ns) =
    spaced_front word (rest ++ (32 ∷ decimal n)) ns ∙ ap (λ (l : List ℕ). spaced l ns) (sym (append_assoc word rest (32 ∷ decimal n)))

pub after_word : (word ns : List ℕ) → word ++ (spaced [] ns ++ 10 ∷ []) ≡ spaced word ns ++ 10 ∷ []
after_word word ns =
    sym (append_assoc word (spaced [] ns) (10 ∷ []))
    ∙ ap (λ (l : List ℕ). l ++ 10 ∷ []) (spaced_front word [] ns ∙ ap (λ (l : List ℕ). spaced l ns) (append-nil word))
