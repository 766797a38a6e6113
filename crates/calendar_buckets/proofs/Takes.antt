-- A registered station is taken out of its bucket: what the stores of `unlink` leave.
use mathlib.Core.Path.{◌≡◌, refl, sym, ap, ◌∙◌}
use mathlib.Core.Logic.{◌⊎◌, inl, inr}
use mathlib.Core.List.{List}
use Prim.Native.Nat.{ℕ, suc, ◌+◌, ◌-◌, ◌*◌, ◌≤◌, ◌<◌}
use native.Mathlib.Omega.{arith}
use lib.ListN.{length}
use Rattle.calendar_shapes.specs.Rule.{Sizes}
use Rattle.calendar_cells.specs.Cells.{word_at, back_at, link_at, put_word}
use Rattle.calendar_cells.specs.Lists.{Back}
use Rattle.calendar_cells.specs.Table.{due_of, bucket_of, next_place, prev_place, node_word, root_of, bucket_head, bytes_for, Due, Table}
use Rattle.calendar_buckets.specs.Promises.{Kept, Gone}
use Rattle.calendar_lists.specs.Promises.{Joined}
use Rattle.calendar_bits.specs.Promises.{Lowered}
use Rattle.calendar_cells.proofs.CellLaws.{length_word, word_same, word_other, back_word, link_word}
use Rattle.calendar_cells.proofs.DueLaws.{due_same, bucket_same, due_set}
use Rattle.calendar_cells.proofs.Places.{list_head, lists_at}
use Rattle.calendar_lists.proofs.ListOut.{lists_out}
use Rattle.calendar_cells.proofs.Heads.{head_some}
use Rattle.calendar_cells.proofs.TableLaws.{table_sizes, next_most, tree_same}
use Rattle.calendar_buckets.proofs.Changes.{changed}

-- the caller's words stay, on any bytes
pub take_kept : (a s v p n list : ℕ) (xs ys zs us : List ℕ) → ys ≡ put_word (8 + s) v xs → Joined p n ys zs → Lowered a list zs us → Kept xs us
take_kept a s v p n list xs ys zs us ey J R = record {
  size = R.size ∙ J.size ∙ ap length ey ∙ length_word (8 + s) v xs;
  words = λ i l. R.words i (omega arith) ∙ J.words i (omega arith) ∙ ap (word_at i) ey ∙ word_other (8 + s) v xs i (omega arith);
}

module _
    (a : ℕ) (xs ys zs us : List ℕ) (T : Table a xs) (s p n list : ℕ) (ls : s < 256) (reg : Due xs s)
    (ep : p ≡ prev_place xs s) (en : n ≡ next_place xs s) (el : list ≡ bucket_of xs s)
    (ey : ys ≡ put_word (8 + s) 0 xs) (J : Joined p n ys zs) (R : Lowered a list zs us)
  where
    Z : Sizes a
    Z = table_sizes T

    long_y : bytes_for a ≤ length ys
    long_y = rw (ey, length_word) T.long

    long_z : bytes_for a ≤ length zs
    long_z = rw J.size long_y

    B : Back (512 + 16 * (a * a)) (bucket_of xs) (due_of xs) (next_place xs) (prev_place xs s) s
    B = T.lists.back s ls reg

    lp : p < 512 + 16 * (a * a)
    lp = rw ep B.within

    lp' : p < 66048
    lp' = let l = lp in omega (arith, Z.most)

    ll : list < 16 * (a * a) + 256
    ll = rw el (T.within s ls reg)

    ln : n ≤ 256
    ln = rw en (next_most a xs T s (omega arith) (λ _. reg))

    word_y : (i : ℕ) → (i ≡ 8 + s → ⊥) → word_at i ys ≡ word_at i xs
    word_y i ne = ap (word_at i) ey ∙ word_other (8 + s) 0 xs i ne

    link_y : (k : ℕ) → k < 512 + 16 * (a * a) → link_at k ys ≡ link_at k xs
    link_y k l = ap (link_at k) ey ∙ link_word (8 + s) 0 xs (a * a) k (inl (omega arith)) l

    back_y : (k : ℕ) → k < 257 → back_at k ys ≡ back_at k xs
    back_y k l = ap (back_at k) ey ∙ back_word (8 + s) 0 xs k (inl (omega arith)) l

    out_word : (i : ℕ) → i < 264 → (i ≡ 8 + s → ⊥) → word_at i us ≡ word_at i xs
    out_word i l ne = R.words i l ∙ J.words i (omega arith) ∙ word_y i ne

    out_this : due_of us s ≡ 0
    out_this =
        due_set us s 0 0 (omega arith)
        (R.words (8 + s) (omega arith) ∙ J.words (8 + s) (omega arith) ∙ ap (word_at (8 + s)) ey
        ∙ word_same (8 + s) 0 xs (omega (arith, T.long)) (omega arith))

    out_due : (x : ℕ) → x < 256 → (x ≡ s → ⊥) → due_of us x ≡ due_of xs x
    out_due x l ne = due_same xs us x (out_word (8 + x) (omega arith) (omega arith))

    out_bucket : (x : ℕ) → x < 256 → (x ≡ s → ⊥) → bucket_of us x ≡ bucket_of xs x
    out_bucket x l ne = bucket_same xs us x (out_word (8 + x) (omega arith) (omega arith))

    out_next : next_place us (prev_place xs s) ≡ next_place xs s
    out_next = ap (next_place us) (sym ep) ∙ R.links ll p lp ∙ J.next (let l = lp in omega (arith, long_y)) lp' ln ∙ en

    out_next_o : (q : ℕ) → q < 512 + 16 * (a * a) → (q ≡ prev_place xs s → ⊥) → next_place us q ≡ next_place xs q
    out_next_o q l ne = R.links ll q l ∙ J.links q (λ e. ne (e ∙ ep)) ∙ link_y q l

    out_prev : (m : ℕ) → m < 256 → next_place xs s ≡ suc m → prev_place us m ≡ prev_place xs s
    out_prev m l e =
        R.backs ll (suc m) (omega arith) ∙ ap (λ (y : ℕ). back_at y zs) (sym e ∙ sym en) ∙ J.prev (omega (arith, long_y)) lp' ln ∙ ep

    out_prev_o : (m : ℕ) → m < 256 → (next_place xs s ≡ suc m → ⊥) → prev_place us m ≡ prev_place xs m
    out_prev_o m l ne =
        R.backs ll (suc m) (omega arith) ∙ J.backs (suc m) (omega arith) (λ f. ne (sym en ∙ sym f)) ∙ back_y (suc m) (omega arith)

    -- the head of a bucket other than the station's own is not touched
    out_head : (l : ℕ) → l < 16 * (a * a) + 256 → (l ≡ list → ⊥) → bucket_head zs l ≡ bucket_head xs l
    out_head l h ne = J.links (256 + l) hit ∙ link_y (256 + l) (omega arith)
      where
        hit : 256 + l ≡ p → ⊥
        hit e =
            let q : 256 ≤ prev_place xs s = omega (arith, ep) in
            let b : prev_place xs s - 256 ≡ bucket_of xs s = sym (list_head (bucket_of xs) (prev_place xs s) q) ∙ B.list in
            ne (omega (arith, ep, b ∙ sym el))

    -- the station stood in its bucket
    filled : bucket_head xs list ≡ 0 → ⊥
    filled = rw el (head_some a xs T s ls reg)

    nodes_z : (j : ℕ) → node_word a zs j ≡ node_word a xs j
    nodes_z j = J.high (a * a) lp j ∙ word_y (541 + 4 * (a * a) + j) (omega arith)

    roots_z : (r : ℕ) → r < 20 → root_of zs r ≡ root_of xs r
    roots_z r l = J.words (264 + r) (omega arith) ∙ word_y (264 + r) (omega arith)

    pub taken_out : Gone a s xs us
    taken_out = record {
      changed =
          changed a xs us T s 0 (R.size ∙ J.size ∙ ap length ey ∙ length_word (8 + s) 0 xs) (out_word 7 (omega arith) (omega arith)) out_this out_due out_bucket
          (omega arith) (λ ne. absurd (ne refl))
          (lists_at (512 + 16 * (a * a)) (bucket_of xs) (bucket_of us) (due_of us) (next_place us) (prev_place us)
          (λ x l r. out_bucket x l (λ e. r (ap (due_of us) e ∙ out_this)))
          (lists_out (512 + 16 * (a * a)) (omega arith) (bucket_of xs) (due_of xs) (next_place xs) (prev_place xs) (due_of us) (next_place us) (prev_place us) s ls reg
          out_this out_due out_next out_next_o out_prev out_prev_o T.lists))
          (R.tree long_z ll (bucket_head xs) filled out_head (tree_same a (bucket_head xs) (bucket_head xs) xs zs Z (λ l h. refl) nodes_z roots_z T.tree));
      due_is = out_this;
    }

-- a station in range is not out of range, nor is a long buffer short
pub take_nothing : (s n : ℕ) → s < 256 → 7656 ≤ n → (256 ≤ s) ⊎ (n < 7656) → ⊥
take_nothing s n a b (inl h) = omega arith
take_nothing s n a b (inr h) = omega arith

-- a station that is absent already
pub gone_already : (a s : ℕ) (xs : List ℕ) → Table a xs → due_of xs s ≡ 0 → Gone a s xs xs
gone_already a s xs T e = record { changed = record { table = T; dues = λ x l ne. refl; buckets = λ x l ne. refl }; due_is = e }

pub kept_same : (xs : List ℕ) → Kept xs xs
kept_same xs = record { size = refl; words = λ i l. refl }

pub kept_on : {xs ys zs : List ℕ} → Kept xs ys → Kept ys zs → Kept xs zs
kept_on K M = record { size = M.size ∙ K.size; words = λ i l. M.words i l ∙ K.words i l }
