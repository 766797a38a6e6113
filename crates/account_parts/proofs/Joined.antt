-- Parts joined: the entries of the first, where it is whole, and then those of the second.
use mathlib.Core.Path.{◌≡◌, refl, sym, ap, ap₂, ◌∙◌}
use mathlib.Core.List.{List, [], ◌∷◌, ◌++◌, append-nil, append_assoc}
use Prim.Native.Nat.{ℕ, zero, suc, ◌+◌, ◌*◌, ◌/◌, ◌%◌, ◌≤◌}
use native.Mathlib.Nat.{add-zero, add-suc, add_assoc}
use native.Mathlib.Omega.{arith}
use lib.ListN.{length, length-append, get_or-append}
use lib.Seq.{get_or-append-add}
use Rattle.words.specs.Le.{le_at, load_at}
use Rattle.words.proofs.Total.{load_in}
use Rattle.account_parts.specs.Part.{LogEntry, entry_at, first_entries, entries_of}

-- ---- a number in the first, and in the second

le_first : (n i : ℕ) (xs ys : List ℕ) → i + n ≤ length xs → le_at n i (xs ++ ys) ≡ le_at n i xs
unfolding le_at
le_first zero i xs ys h = refl
le_first (suc n) i xs ys h =
    ap₂ (λ (a b : ℕ). a * 256 + b) (le_first n (suc i) xs ys (omega arith)) (get_or-append xs ys 0 i (omega arith))

load_first : (n i : ℕ) (xs ys : List ℕ) → i + n ≤ length xs → load_at n i (xs ++ ys) ≡ load_at n i xs
load_first n i xs ys h =
    load_in n i (xs ++ ys) (omega (arith, length-append xs ys)) ∙ le_first n i xs ys h ∙ sym (load_in n i xs h)

le_second : (n i : ℕ) (xs ys : List ℕ) → le_at n (length xs + i) (xs ++ ys) ≡ le_at n i ys
unfolding le_at
le_second zero i xs ys = refl
le_second (suc n) i xs ys =
    ap₂ (λ (a b : ℕ). a * 256 + b) (ap (λ (m : ℕ). le_at n m (xs ++ ys)) (sym (add-suc (length xs) i)) ∙ le_second n (suc i) xs ys)
    (get_or-append-add xs ys i 0)

load_second : (n i : ℕ) (xs ys : List ℕ) → i + n ≤ length ys → load_at n (length xs + i) (xs ++ ys) ≡ load_at n i ys
load_second n i xs ys h =
    load_in n (length xs + i) (xs ++ ys) (omega (arith, length-append xs ys)) ∙ le_second n i xs ys ∙ sym (load_in n i ys h)

-- ---- an entry

pub entry_first : (at : ℕ) (xs ys : List ℕ) → at + 24 ≤ length xs → entry_at at (xs ++ ys) ≡ entry_at at xs
unfolding entry_at
entry_first at xs ys h =
    rw (
      load_first 8 at xs ys (omega arith),
      load_first 4 (at + 12) xs ys (omega arith),
      load_first 2 (at + 16) xs ys (omega arith),
      load_first 2 (at + 18) xs ys (omega arith),
      load_first 4 (at + 20) xs ys (omega arith),
    )

entry_second : (at : ℕ) (xs ys : List ℕ) → at + 24 ≤ length ys → entry_at (length xs + at) (xs ++ ys) ≡ entry_at at ys
unfolding entry_at
entry_second at xs ys h =
    rw (
      add_assoc (length xs) at 12,
      add_assoc (length xs) at 16,
      add_assoc (length xs) at 18,
      add_assoc (length xs) at 20,
      load_second 8 at xs ys (omega arith),
      load_second 4 (at + 12) xs ys (omega arith),
      load_second 2 (at + 16) xs ys (omega arith),
      load_second 2 (at + 18) xs ys (omega arith),
      load_second 4 (at + 20) xs ys (omega arith),
    )

-- ---- all entries

entries_first : (k : ℕ) (xs ys : List ℕ) → 24 * k ≤ length xs → first_entries k (xs ++ ys) ≡ first_entries k xs
unfolding first_entries
entries_first zero xs ys h = refl
entries_first (suc k) xs ys h = rw (entries_first k xs ys (omega arith), entry_first (24 * k) xs ys (omega arith))

pub entries_second : (j k : ℕ) (xs ys : List ℕ) → length xs ≡ 24 * j → 24 * k ≤ length ys
    → first_entries (j + k) (xs ++ ys) ≡ first_entries j xs ++ first_entries k ys
unfolding first_entries
entries_second j zero xs ys e h = rw (add-zero j, append-nil (first_entries j xs)) (entries_first j xs ys (omega arith))
entries_second j (suc k) xs ys e h =
    ap (λ (m : ℕ). first_entries m (xs ++ ys)) (add-suc j k)
    ∙ ap₂ (λ (es : List LogEntry) (v : LogEntry). es ++ (v ∷ [])) (entries_second j k xs ys e (omega arith)) last
    ∙ append_assoc (first_entries j xs) (first_entries k ys) _
  where
    at : 24 * (j + k) ≡ length xs + 24 * k
    at = omega arith

    last : entry_at (24 * (j + k)) (xs ++ ys) ≡ entry_at (24 * k) ys
    last = ap (λ (m : ℕ). entry_at m (xs ++ ys)) at ∙ entry_second (24 * k) xs ys (omega arith)

pub entries_join : (xs ys : List ℕ) → length xs % 24 ≡ 0 → entries_of (xs ++ ys) ≡ entries_of xs ++ entries_of ys
unfolding entries_of
entries_join xs ys h =
    ap (λ (m : ℕ). first_entries m (xs ++ ys)) count ∙ entries_second (length xs / 24) (length ys / 24) xs ys (omega arith) (omega arith)
  where
    count : length (xs ++ ys) / 24 ≡ length xs / 24 + length ys / 24
    count = omega (arith, length-append xs ys)
