-- One due is changed, and links and bits are right: the bytes are a table again.
use mathlib.Core.Path.{◌≡◌, sym, ap, ◌∙◌, subst}
use mathlib.Core.Logic.{◌⊎◌, inl, inr}
use mathlib.Core.List.{List}
use Prim.Native.Nat.{ℕ, suc, ◌+◌, ◌*◌, ◌≤◌, ◌<◌}
use lib.ListN.{length}
use Rattle.refusal.specs.Tests.{horizon}
use Rattle.calendar_cells.specs.Cells.{word_at}
use Rattle.calendar_cells.specs.Lists.{Lists}
use Rattle.calendar_cells.specs.Tree.{Tree}
use Rattle.calendar_cells.specs.Table.{due_of, bucket_of, next_place, prev_place, node_word, root_of, bucket_head, Due, Table}
use Rattle.calendar_buckets.specs.Promises.{Changed}
use Rattle.words.proofs.Cases.{eq_or}
use Rattle.calendar_cells.proofs.DueLaws.{arity_same}

module _
    (a : ℕ) (xs us : List ℕ) (T : Table a xs) (s v : ℕ) (size : length us ≡ length xs) (row : word_at 7 us ≡ word_at 7 xs) (this : due_of us s ≡ v)
    (dues : (x : ℕ) → x < 256 → (x ≡ s → ⊥) → due_of us x ≡ due_of xs x)
    (buckets : (x : ℕ) → x < 256 → (x ≡ s → ⊥) → bucket_of us x ≡ bucket_of xs x)
    (most : v ≤ suc horizon)
    (right : (v ≡ 0 → ⊥) → (bucket_of us s < 16 * (a * a) + 256) × (16 * (a * a) ≤ bucket_of us s → bucket_of us s ≡ 16 * (a * a) + s))
    (L : Lists (512 + 16 * (a * a)) (bucket_of us) (due_of us) (next_place us) (prev_place us)) (B : Tree a (bucket_head us) (node_word a us) (root_of us))
  where
    until : (x : ℕ) → x < 256 → (x ≡ s) ⊎ (x ≡ s → ⊥) → due_of us x ≤ suc horizon
    until x l (inl e) = rw (e, this) most
    until x l (inr ne) = rw (dues x l ne) (T.until x l)

    bound : (x : ℕ) → x < 256 → Due us x → (x ≡ s) ⊎ (x ≡ s → ⊥) → (bucket_of us x < 16 * (a * a) + 256) × (16 * (a * a) ≤ bucket_of us x → bucket_of us x ≡ 16 * (a * a) + x)
    bound x l r (inl e) =
        subst (λ (y : ℕ). (bucket_of us y < 16 * (a * a) + 256) × (16 * (a * a) ≤ bucket_of us y → bucket_of us y ≡ 16 * (a * a) + y)) (sym e)
        (right (λ z. r (ap (due_of us) e ∙ this ∙ z)))
    bound x l r (inr ne) =
        let d : Due xs x = λ z. r (dues x l ne ∙ z) in
        subst (λ (y : ℕ). (y < 16 * (a * a) + 256) × (16 * (a * a) ≤ y → y ≡ 16 * (a * a) + x)) (sym (buckets x l ne)) (T.within x l d, T.own x l d)

    pub changed : Changed a s xs us
    changed = record {
      table = record {
        arity_is = T.arity_is ∙ sym (arity_same xs us row);
        long = rw size T.long;
        until = λ x l. until x l (eq_or x s);
        within = λ x l r. (bound x l r (eq_or x s)).0;
        own = λ x l r. (bound x l r (eq_or x s)).1;
        lists = L;
        tree = B;
      };
      dues = dues;
      buckets = buckets;
    }
