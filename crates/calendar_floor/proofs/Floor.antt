-- The floor rises: within its block only the floor's word changes; into a later block the ring turns with it, and stations may still wait that it covers now.
use mathlib.Core.Path.{◌≡◌, sym, ap, ap₂, ◌∙◌, subst}
use mathlib.Core.Bool.{false}
use mathlib.Core.Logic.{◌⊎◌, inl, inr}
use mathlib.Core.List.{List}
use Prim.Native.Nat.{ℕ, ◌+◌, ◌-◌, ◌*◌, ◌/◌, ◌%◌, ◌^◌, ◌≤◌, ◌<◌}
use native.Mathlib.Nat.{mul-pos, mul-le-mul_right, add-mul, div-mul-le_self, div-eq_of_lt-le}
use native.Mathlib.Omega.{arith}
use Rattle.calendar_cells.specs.Cells.{word_at, put_word}
use Rattle.calendar_cells.specs.Table.{arity_of, due_of, bucket_of, Due}
use Rattle.calendar_buckets.specs.Promises.{bucket_for}
use Rattle.words.proofs.Cases.{lt_or}
use Rattle.calendar_ring.specs.Ring.{block_of, ring_end, leaf_for}
use Rattle.calendar_ring.proofs.Blocks.{block_mono}
use Rattle.calendar_header.specs.Bytes.{width_of, floor_of, end_of, limit_of, count_of, home_of, Header, SoundAt, Sound, state_of}
use Rattle.calendar_header.specs.Rules.{any_before}
use Rattle.calendar_floor.specs.Steps.{Settling, Settled, Risen}
use Rattle.calendar_header.proofs.Tests.{true_false, any_true}
use Rattle.calendar_header.proofs.States.{time_at}
use Rattle.calendar_header.proofs.Leaves.{span_most}
use Rattle.calendar_header.proofs.Homes.{arity_pos, sound_long, home_in, home_over}
use Rattle.calendar_header.proofs.Writing.{put_at, Written, written_start, written_put, header_is}

-- every registered time is at the new floor or later
abbrev pub Above : ℕ → List ℕ → Type 0
Above f xs = (x : ℕ) → x < 256 → (due_of xs x ≡ 0 → ⊥) → f < due_of xs x

-- so it is where none lies before it
pub none_before : (xs : List ℕ) (f : ℕ) → Sound xs → false ≡ any_before f (state_of xs).times → Above f xs
none_before xs f S e x l r = go (lt_or f (due_of xs x))
  where
    go : (f < due_of xs x) ⊎ (due_of xs x ≤ f) → f < due_of xs x
    go (inl k) = k
    go (inr k) = absurd (true_false (sym (any_true f (state_of xs).times x (due_of xs x - 1) (time_at xs S x l r) (omega arith)) ∙ sym e))

-- ---- within the block

module _ (a : ℕ) (xs ys : List ℕ) (f : ℕ) (e : ys ≡ put_word 1 f xs) (mf : f ≤ 1099511627776) (S : SoundAt a xs) (A : Above f xs) (up : floor_of xs ≤ f) where
  within_written : Written (put_at (λ i. word_at i xs) 1 f) xs ys
  within_written = written_put (λ i. word_at i xs) xs xs ys 1 f (written_start xs) (omega arith) (omega arith) e

  word : (i : ℕ) → i < 8 → word_at i ys ≡ put_at (λ j. word_at j xs) 1 f i
  word i l = within_written.words (sound_long xs S) i l

  same_block : f < end_of xs → block_of a (width_of xs) f ≡ block_of a (width_of xs) (floor_of xs)
  same_block h =
      div-eq_of_lt-le (width_of xs * (a * a)) (omega (arith, div-mul-le_self (floor_of xs) (width_of xs * (a * a))))
      (subst (λ (y : ℕ). f < y) S.header.end_is h)

  within_header : f < end_of xs → Header a ys
  within_header h =
      let H = S.header in
      let b = same_block h in
      header_is a ys (width_of xs) f (count_of xs) H.width_pos H.width_most mf H.count_pos H.count_most (word 0 (omega arith)) (word 1 (omega arith))
      (word 2 (omega arith) ∙ H.start_is ∙ ap (λ (k : ℕ). k * (width_of xs * (a * a))) (sym b))
      (word 3 (omega arith) ∙ H.end_is ∙ ap (λ (k : ℕ). (k + 1) * (width_of xs * (a * a))) (sym b))
      (word 4 (omega arith) ∙ H.limit_is ∙ ap (λ (k : ℕ). (k + 16) * (width_of xs * (a * a))) (sym b))
      (word 5 (omega arith) ∙ H.slot_is ∙ ap (λ (k : ℕ). k % 16) (sym b)) (word 6 (omega arith))

  pub risen_within : f < end_of xs → Risen a f xs ys
  risen_within h = record {
    sound = record {
      long = rw within_written.size S.long;
      header = within_header h;
      table = within_written.table a S.table;
      absent = λ x l k. within_written.dues x ∙ S.absent x l (subst (λ (y : ℕ). y ≤ x) (word 6 (omega arith)) k);
      since = λ x l r. rw (word 1 (omega arith), within_written.dues x) (A x l (λ z. r (within_written.dues x ∙ z)));
      homes = λ x l r.
          within_written.buckets x ∙ S.homes x l (λ z. r (within_written.dues x ∙ z))
          ∙ sym (ap (λ (d : ℕ). bucket_for a (leaf_for a (width_of ys) (limit_of ys) (d - 1)) x) (within_written.dues x)
          ∙ ap₂ (λ (y z : ℕ). bucket_for a (leaf_for a y z (due_of xs x - 1)) x) (word 0 (omega arith)) (word 4 (omega arith)));
    };
    width_is = word 0 (omega arith);
    floor_is = word 1 (omega arith);
    count_is = word 6 (omega arith);
    dues = λ x l. within_written.dues x;
  }

-- ---- into a later block

-- a block has a length
pub span_pos : (w n : ℕ) → (w ≡ 0 → ⊥) → 0 < n → 0 < w * n
span_pos w n p q = let l : 0 < w = omega (arith, p) in mul-pos l q

-- the numbers of the ring fit a word: of blocks of n leaves of width w
module _ (f w n : ℕ) (mf : f ≤ 1099511627776) (mw : w ≤ 1048576) (mn : n ≤ 4096) where
  pub start_fits : f / (w * n) * (w * n) < 2 ^ 64
  start_fits = omega (arith, div-mul-le_self f (w * n))

  pub end_fits : (f / (w * n) + 1) * (w * n) < 2 ^ 64
  end_fits = omega (arith, div-mul-le_self f (w * n), add-mul (f / (w * n)) 1 (w * n), span_most w n mw mn)

  pub limit_fits : (f / (w * n) + 16) * (w * n) < 2 ^ 64
  limit_fits = omega (arith, div-mul-le_self f (w * n), add-mul (f / (w * n)) 16 (w * n), span_most w n mw mn)

-- the words of the header after a turn, with blocks of length m
abbrev turned_words : (ℕ → ℕ) → ℕ → ℕ → ℕ → ℕ
turned_words g m f = put_at (put_at (put_at (put_at (put_at g 1 f) 2 (f / m * m)) 3 ((f / m + 1) * m)) 4 ((f / m + 16) * m)) 5 (f / m % 16)

module _
    (xs y1 y2 y3 y4 us : List ℕ) (w n f : ℕ) (ew : w ≡ width_of xs) (em : n ≡ arity_of xs * arity_of xs) (mf : f ≤ 1099511627776) (mw : w ≤ 1048576) (mn : n ≤ 4096)
    (e1 : y1 ≡ put_word 1 f xs) (e2 : y2 ≡ put_word 2 (f / (w * n) * (w * n)) y1) (e3 : y3 ≡ put_word 3 ((f / (w * n) + 1) * (w * n)) y2)
    (e4 : y4 ≡ put_word 4 ((f / (w * n) + 16) * (w * n)) y3) (e5 : us ≡ put_word 5 (f / (w * n) % 16) y4)
  where
    turned : Written (turned_words (λ i. word_at i xs) (w * n) f) xs us
    turned =
        written_put _ xs y4 us 5 (f / (w * n) % 16)
        (written_put _ xs y3 y4 4 ((f / (w * n) + 16) * (w * n))
        (written_put _ xs y2 y3 3 ((f / (w * n) + 1) * (w * n))
        (written_put _ xs y1 y2 2 (f / (w * n) * (w * n))
        (written_put _ xs xs y1 1 f (written_start xs) (omega arith) (omega arith) e1)
        (omega arith) (start_fits f w n mf mw mn) e2)
        (omega arith) (end_fits f w n mf mw mn) e3)
        (omega arith) (limit_fits f w n mf mw mn) e4)
        (omega arith) (omega arith) e5

    module _ (a : ℕ) (S : SoundAt a xs) (A : Above f xs) (up : floor_of xs ≤ f) where
      at : (i : ℕ) → i < 8 → word_at i us ≡ turned_words (λ j. word_at j xs) (w * n) f i
      at i l = turned.words (sound_long xs S) i l

      span_is : w * n ≡ width_of xs * (a * a)
      span_is = ap₂ (λ (x y : ℕ). x * y) ew (em ∙ sym (ap (λ (y : ℕ). y * y) S.table.arity_is))

      limit_is : limit_of us ≡ ring_end a (width_of xs) f
      limit_is = at 4 (omega arith) ∙ ap (λ (m : ℕ). (f / m + 16) * m) span_is

      turned_header : Header a us
      turned_header =
          let H = S.header in
          header_is a us (width_of xs) f (count_of xs) H.width_pos H.width_most mf H.count_pos H.count_most (at 0 (omega arith)) (at 1 (omega arith))
          (at 2 (omega arith) ∙ ap (λ (m : ℕ). f / m * m) span_is) (at 3 (omega arith) ∙ ap (λ (m : ℕ). (f / m + 1) * m) span_is) limit_is
          (at 5 (omega arith) ∙ ap (λ (m : ℕ). f / m % 16) span_is) (at 6 (omega arith))

      -- the ring ends later
      limit_grows : limit_of xs ≤ limit_of us
      limit_grows =
          rw (limit_is, S.header.limit_is)
          (mul-le-mul_right (width_of xs * (a * a))
          (let q = block_mono a (width_of xs) (arity_pos xs S) S.header.width_pos (floor_of xs) f up in omega arith))

      turned_home : (x : ℕ) → x < 256 → Due us x → (due_of xs x - 1 < limit_of xs) ⊎ (limit_of xs ≤ due_of xs x - 1)
          → (bucket_of us x ≡ home_of a us x) ⊎ ((bucket_of us x ≡ 16 * (a * a) + x) × (0 ≤ x))
      turned_home x l r (inl h) =
          inl (turned.buckets x ∙ S.homes x l (λ z. r (turned.dues x ∙ z))
          ∙ home_in a (width_of xs) (limit_of xs) (due_of xs x - 1) x (arity_pos xs S) h
          ∙ sym (home_in a (width_of xs) (limit_of us) (due_of xs x - 1) x (arity_pos xs S) (omega (arith, limit_grows)))
          ∙ ap₂ (λ (y d : ℕ). bucket_for a (leaf_for a y (limit_of us) (d - 1)) x) (sym (at 0 (omega arith))) (sym (turned.dues x)))
      turned_home x l r (inr h) =
          inr (turned.buckets x ∙ S.homes x l (λ z. r (turned.dues x ∙ z)) ∙ home_over a (width_of xs) (limit_of xs) (due_of xs x - 1) x h, omega arith)

      turned_settling : Settling a 0 us
      turned_settling = record {
        long = rw turned.size S.long;
        header = turned_header;
        table = turned.table a S.table;
        absent = λ x l k. turned.dues x ∙ S.absent x l (subst (λ (y : ℕ). y ≤ x) (at 6 (omega arith)) k);
        since = λ x l r. rw (at 1 (omega arith), turned.dues x) (A x l (λ z. r (turned.dues x ∙ z)));
        homes = λ x l r. turned_home x l r (lt_or (due_of xs x - 1) (limit_of xs));
      }

      pub risen_turned : (vs : List ℕ) → (Settling a 0 us → Settled a us vs) → Risen a f xs vs
      risen_turned vs settle =
          let T = settle turned_settling in
          record {
            sound = T.sound;
            width_is = T.same.kept.words 0 (omega arith) ∙ at 0 (omega arith);
            floor_is = T.same.kept.words 1 (omega arith) ∙ at 1 (omega arith);
            count_is = T.same.kept.words 6 (omega arith) ∙ at 6 (omega arith);
            dues = λ x l. T.same.dues x l ∙ turned.dues x;
          }
