-- An absent station is put into a bucket: what the stores of `insert` leave.
use mathlib.Core.Path.{◌≡◌, refl, sym, ap, ◌∙◌, subst}
use mathlib.Core.Logic.{◌⊎◌, inl, inr}
use mathlib.Core.List.{List}
use Prim.Native.Nat.{ℕ, suc, ◌+◌, ◌-◌, ◌*◌, ◌≤◌, ◌<◌}
use native.Mathlib.Omega.{arith}
use lib.ListN.{length}
use borrow.Author.Tests.{lt-ltb, le-ltb}
use Rattle.refusal.specs.Tests.{horizon}
use Rattle.calendar_shapes.specs.Rule.{Sizes}
use Rattle.calendar_cells.specs.Cells.{word_at, back_at, link_at, put_word}
use Rattle.calendar_cells.specs.Table.{due_of, bucket_of, next_place, prev_place, node_word, root_of, bucket_head, bytes_for, Table}
use Rattle.calendar_buckets.specs.Promises.{bucket_for, Kept, Gone, Placed}
use Rattle.calendar_lists.specs.Promises.{Place, Joined}
use Rattle.calendar_bits.specs.Promises.{Raised}
use Rattle.calendar_cells.proofs.CellLaws.{length_word, word_same, word_other, back_word, link_word}
use Rattle.calendar_cells.proofs.DueLaws.{due_same, bucket_same, due_set, bucket_set}
use Rattle.calendar_cells.proofs.Places.{list_station, list_head}
use Rattle.words.proofs.Cases.{lt_or}
use Rattle.calendar_lists.proofs.ListIn.{lists_in}
use Rattle.calendar_cells.proofs.Heads.{head_some}
use Rattle.calendar_cells.proofs.TableLaws.{table_sizes, next_most, tree_same}
use Rattle.calendar_buckets.proofs.Changes.{changed}

module _
    (a s d p n list : ℕ) (xs ys us vs ws : List ℕ) (ls : s < 256)
    (ey : ys ≡ put_word (8 + s) (list * 2199023255552 + d) xs) (J : Joined s n ys us) (K : Joined p (suc s) us vs) (R : Raised a list vs ws)
  where
    word_y : (i : ℕ) → (i ≡ 8 + s → ⊥) → word_at i ys ≡ word_at i xs
    word_y i ne = ap (word_at i) ey ∙ word_other (8 + s) (list * 2199023255552 + d) xs i ne

    in_size : length ws ≡ length xs
    in_size = R.size ∙ K.size ∙ J.size ∙ ap length ey ∙ length_word (8 + s) (list * 2199023255552 + d) xs

    in_word : (i : ℕ) → i < 264 → (i ≡ 8 + s → ⊥) → word_at i ws ≡ word_at i xs
    in_word i l ne = R.words i l ∙ K.words i (omega arith) ∙ J.words i (omega arith) ∙ word_y i ne

    pub put_kept : Kept xs ws
    put_kept = record { size = in_size; words = λ i l. in_word i (omega arith) (omega arith) }

    module _
        (T : Table a xs) (ed : due_of xs s ≡ 0) (pd : 0 < d) (md : d ≤ suc horizon) (ll : list < 16 * (a * a) + 256)
        (lo : 16 * (a * a) ≤ list → list ≡ 16 * (a * a) + s) (P : Place a xs list (d * 256 + s) p) (en : n ≡ next_place xs p)
      where
        Z : Sizes a
        Z = table_sizes T

        lp : p < 512 + 16 * (a * a)
        lp = P.within

        lp' : p < 66048
        lp' = omega (arith, P.within, Z.most)

        long_y : bytes_for a ≤ length ys
        long_y = rw (ey, length_word) T.long

        long_u : bytes_for a ≤ length us
        long_u = rw J.size long_y

        long_v : bytes_for a ≤ length vs
        long_v = rw K.size long_u

        ln : n ≤ 256
        ln = rw en (next_most a xs T p lp P.live)

        -- the station is not the place before it
        apart : s ≡ p → ⊥
        apart e = P.live (subst (λ (k : ℕ). k < 256) e ls) (ap (due_of xs) (sym e) ∙ ed)

        link_y : (k : ℕ) → k < 512 + 16 * (a * a) → link_at k ys ≡ link_at k xs
        link_y k l = ap (link_at k) ey ∙ link_word (8 + s) (list * 2199023255552 + d) xs (a * a) k (inl (omega arith)) l

        back_y : (k : ℕ) → k < 257 → back_at k ys ≡ back_at k xs
        back_y k l = ap (back_at k) ey ∙ back_word (8 + s) (list * 2199023255552 + d) xs k (inl (omega arith)) l

        word_s : word_at (8 + s) ws ≡ list * 2199023255552 + d
        word_s =
            R.words (8 + s) (omega arith) ∙ K.words (8 + s) (omega arith) ∙ J.words (8 + s) (omega arith) ∙ ap (word_at (8 + s)) ey
            ∙ word_same (8 + s) (list * 2199023255552 + d) xs (omega (arith, T.long)) (omega (arith, Z.most))

        in_this : due_of ws s ≡ d
        in_this = due_set ws s d list (omega arith) word_s

        in_due : (x : ℕ) → x < 256 → (x ≡ s → ⊥) → due_of ws x ≡ due_of xs x
        in_due x l ne = due_same xs ws x (in_word (8 + x) (omega arith) (omega arith))

        in_bucket_s : bucket_of ws s ≡ list
        in_bucket_s = bucket_set ws s d list (omega arith) word_s

        in_bucket : (x : ℕ) → x < 256 → (x ≡ s → ⊥) → bucket_of ws x ≡ bucket_of xs x
        in_bucket x l ne = bucket_same xs ws x (in_word (8 + x) (omega arith) (omega arith))

        -- a link that neither join touches
        in_rest : (k : ℕ) → k < 512 + 16 * (a * a) → (k ≡ p → ⊥) → (k ≡ s → ⊥) → link_at k vs ≡ link_at k xs
        in_rest k l b c = K.links k b ∙ J.links k c ∙ link_y k l

        in_next_p : next_place ws p ≡ suc s
        in_next_p = R.links ll p lp ∙ K.next (let l = lp in omega (arith, long_u)) lp' (omega arith)

        in_next_s : next_place ws s ≡ next_place xs p
        in_next_s = R.links ll s (omega arith) ∙ K.links s apart ∙ J.next (omega (arith, long_y)) (omega arith) ln ∙ en

        in_next_o : (q : ℕ) → q < 512 + 16 * (a * a) → (q ≡ s → ⊥) → (q ≡ p → ⊥) → next_place ws q ≡ next_place xs q
        in_next_o q l b c = R.links ll q l ∙ in_rest q l c b

        in_prev_s : prev_place ws s ≡ p
        in_prev_s = R.backs ll (suc s) (omega arith) ∙ K.prev (omega (arith, long_u)) lp' (omega arith)

        -- the station after p was there before
        in_beyond : (m : ℕ) → next_place xs p ≡ suc m → m ≡ s → ⊥
        in_beyond m e z = (T.lists.front p lp P.live m e).live (ap (due_of xs) z ∙ ed)

        in_prev_n : (m : ℕ) → m < 256 → next_place xs p ≡ suc m → prev_place ws m ≡ s
        in_prev_n m l e =
            let ne : m ≡ s → ⊥ = in_beyond m e in
            R.backs ll (suc m) (omega arith) ∙ K.backs (suc m) (omega arith) (λ z. ne (omega arith)) ∙ ap (λ (y : ℕ). back_at y us) (sym e ∙ sym en)
            ∙ J.prev (omega (arith, long_y)) (omega arith) ln

        in_prev_o : (m : ℕ) → m < 256 → (m ≡ s → ⊥) → (next_place xs p ≡ suc m → ⊥) → prev_place ws m ≡ prev_place xs m
        in_prev_o m l b c =
            R.backs ll (suc m) (omega arith) ∙ K.backs (suc m) (omega arith) (λ e. b (omega arith))
            ∙ J.backs (suc m) (omega arith) (λ e. c (sym en ∙ sym e)) ∙ back_y (suc m) (omega arith)

        in_head : (l : ℕ) → l < 16 * (a * a) + 256 → (l ≡ list → ⊥) → bucket_head vs l ≡ bucket_head xs l
        in_head l h ne = in_rest (256 + l) (omega arith) hit (omega arith)
          where
            hit : 256 + l ≡ p → ⊥
            hit e =
                let q : 256 ≤ p = omega arith in
                let b : p - 256 ≡ list = sym (list_head (bucket_of xs) p q) ∙ P.list_is in
                ne (omega arith)

        -- the bucket's head leads to the station, or to what it led to before
        in_filled : bucket_head vs list ≡ 0 → ⊥
        in_filled z = go (lt_or p 256)
          where
            same : p < 256 → bucket_head vs list ≡ bucket_head xs list
            same h = in_rest (256 + list) (omega arith) (omega arith) (omega arith)

            go : (p < 256) ⊎ (256 ≤ p) → ⊥
            go (inl h) =
                let e : bucket_of xs p ≡ list = sym (list_station (bucket_of xs) p h) ∙ P.list_is in
                head_some a xs T p h (P.live h) (ap (bucket_head xs) e ∙ sym (same h) ∙ z)
            go (inr h) =
                let b : p - 256 ≡ list = sym (list_head (bucket_of xs) p h) ∙ P.list_is in
                let e : 256 + list ≡ p = omega arith in
                let n : suc s ≡ 0 = sym (K.next (let l = lp in omega (arith, long_u)) lp' (omega arith)) ∙ ap (next_place vs) (sym e) ∙ z in
                omega arith

        nodes_v : (j : ℕ) → node_word a vs j ≡ node_word a xs j
        nodes_v j = K.high (a * a) lp j ∙ J.high (a * a) (omega arith) j ∙ word_y (541 + 4 * (a * a) + j) (omega arith)

        roots_v : (r : ℕ) → r < 20 → root_of vs r ≡ root_of xs r
        roots_v r l = K.words (264 + r) (omega arith) ∙ J.words (264 + r) (omega arith) ∙ word_y (264 + r) (omega arith)

        pub put_in : Placed a s d list xs ws
        put_in = record {
          changed =
              changed a xs ws T s d in_size (in_word 7 (omega arith) (omega arith)) in_this in_due in_bucket md
              (λ _. (rw in_bucket_s ll, λ h. in_bucket_s ∙ lo (subst (λ (y : ℕ). 16 * (a * a) ≤ y) in_bucket_s h)))
              (lists_in (512 + 16 * (a * a)) (omega arith) (bucket_of xs) (due_of xs) (next_place xs) (prev_place xs) (bucket_of ws) (due_of ws) (next_place ws) (prev_place ws)
              s d p list ls ed (λ z. omega arith) lp P.live P.list_is P.below P.beyond in_bucket_s in_bucket
              in_this in_due in_next_s in_next_p in_next_o in_prev_s in_prev_n in_prev_o T.lists)
              (R.tree long_v ll (bucket_head xs) in_filled in_head (tree_same a (bucket_head xs) (bucket_head xs) xs vs Z (λ l h. refl) nodes_v roots_v T.tree));
          due_is = in_this;
          bucket_is = in_bucket_s;
        }

-- a station that was taken out first
pub put_after : {a s d l : ℕ} {xs ys zs : List ℕ} → Gone a s xs ys → Placed a s d l ys zs → Placed a s d l xs zs
put_after G P = record {
  changed = record {
    table = P.changed.table;
    dues = λ x lx ne. P.changed.dues x lx ne ∙ G.changed.dues x lx ne;
    buckets = λ x lx ne. P.changed.buckets x lx ne ∙ G.changed.buckets x lx ne;
  };
  due_is = P.due_is;
  bucket_is = P.bucket_is;
}

-- a station and a due number in range are not out of range, nor is a long buffer short
pub put_nothing : (s d n : ℕ) → s < 256 → (d ≡ 0 → ⊥) → d ≤ suc horizon → 7656 ≤ n
    → (256 ≤ s) ⊎ ((d ≡ 0) ⊎ ((suc horizon < d) ⊎ (n < 7656))) → ⊥
put_nothing s d n a b c e (inl h) = omega arith
put_nothing s d n a b c e (inr (inl h)) = b h
put_nothing s d n a b c e (inr (inr (inl h))) = omega arith
put_nothing s d n a b c e (inr (inr (inr h))) = omega arith

-- ---- the bucket of a leaf

pub in_leaf : (a leaf s : ℕ) → leaf < 16 * (a * a) → leaf ≡ bucket_for a leaf s
unfolding bucket_for
in_leaf a leaf s l = rw (lt-ltb leaf (16 * (a * a)) l)

pub in_overflow : (a leaf s r : ℕ) → 16 * (a * a) ≤ leaf → r ≡ 16 * (a * a) + s → r ≡ bucket_for a leaf s
unfolding bucket_for
in_overflow a leaf s r l e = e ∙ rw (le-ltb leaf (16 * (a * a)) l)
