-- "A root word is zero exactly when no registered time lies in its block" (document 02, change 5): the count that is answered is that of a calendar's root
-- words.
use mathlib.Core.Path.{◌≡◌, refl, sym, ap, ◌∙◌}
use mathlib.Core.Bool.{Bool, true, false}
use mathlib.Core.Logic.{◌↔◌, ◌⊎◌, inl, inr}
use mathlib.Core.Option.{none, some}
use mathlib.Core.List.{List}
use Prim.Native.Nat.{ℕ, ◌+◌, ◌*◌, ◌/◌, ◌%◌, ◌≤◌, ◌<◌}
use native.Mathlib.Nat.{mul-pos, mod-lt, div-lt_iff_lt-mul}
use native.Mathlib.Omega.{arith}
use lib.Dec.{eqb}
use lib.ListN.{get_or}
use borrow.Author.Tests.{eq-eqb, ne_eqb}
use Rattle.words.proofs.Cases.{eq_or, lt_or}
use Rattle.calendar_bitmap.specs.Child.{child}
use Rattle.calendar_bitmap.proofs.ChildLaws.{child_zero}
use Rattle.calendar_cells.specs.Table.{arity_of, root_of}
use Rattle.calendar_ring.specs.Ring.{block_of, leaf_in, ring_end}
use Rattle.calendar_ring.specs.WordsRead.{none_in, words_from, words_read}
use Rattle.calendar_ring.proofs.Blocks.{block_mono, block_in, block_after}
use Rattle.calendar_ring.proofs.WordLaws.{some_in, none_in_lem, words_same}
use Rattle.calendar_header.specs.Rules.{Calendar, words_of}
use Rattle.calendar_header.specs.Bytes.{width_of, floor_of, Sound, state_of}
use Rattle.calendar_header.proofs.Homes.{arity_pos}
use Rattle.calendar_header.proofs.States.{time_of}
use Rattle.calendar.proofs.Bits.{RegisteredIn, some_set, root_bit}

-- no registered time lies in block b
abbrev pub none_in_block : Calendar → ℕ → Bool
none_in_block q b = none_in q.arity q.width q.times b

-- the block of the floor
abbrev pub floor_block : Calendar → ℕ
floor_block q = block_of q.arity q.width q.floor

-- of 16 blocks in a row no two have one slot
same_block : (f t b : ℕ) → f ≤ t → t < f + 16 → f ≤ b → b < f + 16 → t % 16 ≡ b % 16 → t ≡ b
same_block f t b l h l' h' e = omega arith

-- a leaf of a block lies under one of its nodes
node_of : (a : ℕ) → 0 < a → (n : ℕ) → n % (a * a) / a < a
node_of a p n = (div-lt_iff_lt-mul p).1 (mod-lt n (mul-pos p p))

no_false : {v : Bool} → v ≡ false → v ≡ true → ⊥
no_false e f = let z : ◌≡◌ {A = ℕ} 0 1 = cc in omega arith

module _ (xs : List ℕ) (S : Sound xs) where
  module _ (b : ℕ) (lo : floor_block (state_of xs) ≤ b) (hi : b < floor_block (state_of xs) + 16) where
    some_time : (root_of xs (b % 16) ≡ 0 → ⊥) → none_in_block (state_of xs) b ≡ false
    unfolding state_of
    some_time nz =
        let C = some_set (arity_of xs) (root_of xs (b % 16)) (S.table.tree.root_fits (b % 16) (omega arith)) nz in
        let G = (root_bit xs S (b % 16) C.0 (omega arith) C.1).0 C.2 in
        let N = time_of xs S G.station G.time G.has in
        let up : floor_of xs ≤ G.time = omega (arith, N.2, S.since G.station N.1 (λ z. absurd (omega (arith, N.2)))) in
        let l = block_mono (arity_of xs) (width_of xs) (arity_pos xs S) S.header.width_pos (floor_of xs) G.time up in
        let h = block_in (arity_of xs) (width_of xs) (arity_pos xs S) S.header.width_pos (floor_of xs) G.time G.ring in
        some_in (arity_of xs) (width_of xs) b (state_of xs).times G.station G.time G.has
        (same_block (floor_block (state_of xs)) (block_of (arity_of xs) (width_of xs) G.time) b l h lo hi G.slot)

    no_time : root_of xs (b % 16) ≡ 0 → none_in_block (state_of xs) b ≡ true
    unfolding state_of
    no_time z = none_in_lem (arity_of xs) (width_of xs) b (state_of xs).times (λ x u e q. go x u e q (lt_or u (ring_end (arity_of xs) (width_of xs) (floor_of xs))))
      where
        go : (x u : ℕ) → get_or (state_of xs).times x none ≡ some u → block_of (arity_of xs) (width_of xs) u ≡ b
            → (u < ring_end (arity_of xs) (width_of xs) (floor_of xs)) ⊎ (ring_end (arity_of xs) (width_of xs) (floor_of xs) ≤ u) → ⊥
        go x u e q (inr h) = omega (arith, block_after (arity_of xs) (width_of xs) (arity_pos xs S) S.header.width_pos (floor_of xs) u h, q, hi)
        go x u e q (inl h) =
            let G : RegisteredIn (state_of xs) (b % 16) (λ c. c / arity_of xs ≡ leaf_in (arity_of xs) (width_of xs) u / arity_of xs) =
            record { station = x; time = u; has = e; ring = h; slot = ap (λ (y : ℕ). y % 16) q; leaf = refl } in
            let one = (root_bit xs S (b % 16) (leaf_in (arity_of xs) (width_of xs) u / arity_of xs) (omega arith) (node_of (arity_of xs) (arity_pos xs S) (u / width_of xs))).1 G in
            let none = ap (λ (y : ℕ). child (arity_of xs) y (leaf_in (arity_of xs) (width_of xs) u / arity_of xs)) z ∙ child_zero (arity_of xs) (leaf_in (arity_of xs) (width_of xs) u / arity_of xs) in
            omega (arith, sym one ∙ none)

    -- of the ring's 16 blocks, each in its slot
    pub root_word : (root_of xs (b % 16) ≡ 0) ↔ (none_in_block (state_of xs) b ≡ true)
    root_word = (no_time, λ e. go e (eq_or (root_of xs (b % 16)) 0))
      where
        go : none_in_block (state_of xs) b ≡ true → (root_of xs (b % 16) ≡ 0) ⊎ (root_of xs (b % 16) ≡ 0 → ⊥) → root_of xs (b % 16) ≡ 0
        go e (inl z) = z
        go e (inr nz) = absurd (no_false (some_time nz) e)

    zero_root : eqb (root_of xs (b % 16)) 0 ≡ none_in_block (state_of xs) b
    zero_root = go (eq_or (root_of xs (b % 16)) 0)
      where
        go : (root_of xs (b % 16) ≡ 0) ⊎ (root_of xs (b % 16) ≡ 0 → ⊥) → eqb (root_of xs (b % 16)) 0 ≡ none_in_block (state_of xs) b
        go (inl z) = eq-eqb (root_of xs (b % 16)) 0 z ∙ sym (no_time z)
        go (inr nz) = ne_eqb (root_of xs (b % 16)) 0 nz ∙ sym (some_time nz)

  -- "the number of root words from the floor's block in ring order to the first that isn't zero, plus one node word"
  pub words_of_roots : words_from (λ b. eqb (root_of xs (b % 16)) 0) (floor_block (state_of xs)) 16 ≡ words_of (state_of xs)
  unfolding words_read
  words_of_roots =
      words_same (λ b. eqb (root_of xs (b % 16)) 0) (none_in_block (state_of xs)) 16 (floor_block (state_of xs))
      (λ k l. zero_root (floor_block (state_of xs) + k) (omega arith) (omega arith))
