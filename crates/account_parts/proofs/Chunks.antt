-- The entries of a part are read from its chunks of 24 bytes, each at its own front.
use mathlib.Core.Path.{◌≡◌, refl, sym, ap, subst, ◌∙◌}
use mathlib.Core.Bool.{◌||◌}
use mathlib.Core.List.{List, [], ◌∷◌, ◌++◌}
use Prim.Native.Nat.{ℕ, zero, suc, ◌+◌, ◌*◌, ◌/◌, ◌≤◌}
use native.Mathlib.Omega.{arith}
use lib.ListN.{length, take, drop, length-append, length-take, length-drop}
use lib.Seq.{drop_at}
use Rattle.std.proofs.lemmas.List.{take-append-drop}
use Rattle.std.proofs.lemmas.Iterator.{YieldsList}
use Rattle.std.specs.Iterator.{AlwaysYields}
use Rattle.std.specs.List.{list_any}
use Rattle.std.specs.Slice.Iter.{chunks_exact_rest, chunks_exact_size, chunks_exact_steps}
use Rattle.std.specs.declared.slice.ChunksExact.{ChunksExact}
use Rattle.account_parts.specs.Part.{LogEntry, entry_at, first_entries, entries_of, entry_out, any_entry_out}
use Rattle.account_parts.proofs.Joined.{entry_first, entries_second}

-- ---- the entries, from the first on

first_entry : (k : ℕ) (xs : List ℕ) → 24 * suc k ≤ length xs → first_entries (suc k) xs ≡ entry_at 0 xs ∷ first_entries k (drop 24 xs)
unfolding first_entries
first_entry k xs h =
    let one : suc k ≡ 1 + k = omega arith in
    let front : length (take 24 xs) ≡ 24 * 1 = omega (arith, length-take 24 xs) in
    let same : entry_at 0 (take 24 xs ++ drop 24 xs) ≡ entry_at 0 (take 24 xs) = entry_first 0 (take 24 xs) (drop 24 xs) (omega (arith, front)) in
    ap (λ (m : ℕ). first_entries m xs) one
    ∙ ap (first_entries (1 + k)) (sym (take-append-drop 24 xs))
    ∙ entries_second 1 k (take 24 xs) (drop 24 xs) front (omega (arith, length-drop 24 xs))
    ∙ ap (λ (e : LogEntry). e ∷ first_entries k (drop 24 xs)) (sym same ∙ ap (entry_at 0) (take-append-drop 24 xs))

all_chunks : (k : ℕ) (s : ChunksExact ℕ) → chunks_exact_size s ≡ 24 → length (chunks_exact_rest s) / 24 ≡ k
    → AlwaysYields chunks_exact_steps (λ x. entry_at 0 x.now) s (first_entries k (chunks_exact_rest s))
unfolding first_entries
all_chunks zero s z c = λ x j t. absurd (omega (arith, z, c, ap length t.1.0, t.1.1, length-append x.now (chunks_exact_rest j)))
all_chunks (suc k) s z c =
    subst (AlwaysYields chunks_exact_steps (λ x. entry_at 0 x.now) s) (sym (first_entry k (chunks_exact_rest s) (omega (arith, c)))) (
      λ j t. absurd (omega (arith, z, c, t.1.0)),
      λ x j t. (
        sym (ap (entry_at 0) t.1.0 ∙ entry_first 0 x.now (chunks_exact_rest j) (omega (arith, z, t.1.1))),
        subst (λ ys. AlwaysYields chunks_exact_steps (λ x. entry_at 0 x.now) j (first_entries k ys))
            (sym (ap (drop 24) t.1.0 ∙ drop_at x.now (chunks_exact_rest j) 24 (t.1.1 ∙ z)))
            (all_chunks k j (t.0 ∙ z) (omega (arith, z, c, ap length t.1.0, t.1.1, length-append x.now (chunks_exact_rest j)))),
      ),
    )

pub yields_entries : {s : ChunksExact ℕ} (part : List ℕ) → chunks_exact_size s ≡ 24 → chunks_exact_rest s ≡ part
    → YieldsList chunks_exact_steps (λ x. entry_at 0 x.now) s (entries_of part)
unfolding entries_of
yields_entries {s} part z r = record {
  runs = subst (λ xs. AlwaysYields chunks_exact_steps (λ x. entry_at 0 x.now) s (first_entries (length xs / 24) xs)) r (all_chunks (length (chunks_exact_rest s) / 24) s z refl);
}

-- ---- whether 19 refuses one of them

pub any_is : (n : ℕ) (es : List LogEntry) → list_any (entry_out n) es ≡ any_entry_out n es
unfolding any_entry_out
any_is n [] = refl
any_is n (e ∷ es) = ap (λ b. entry_out n e || b) (any_is n es)
