-- A cleared table under a first header is a calendar without stations, whatever the buffer held.
use mathlib.Core.Path.{◌≡◌, refl, sym, ap, ◌∙◌, subst}
use mathlib.Core.Bool.{true, false, ◌||◌}
use mathlib.Core.List.{List}
use mathlib.Core.Option.{none}
use Prim.Native.Nat.{ℕ, ◌+◌, ◌*◌, ◌≤◌, ◌<◌}
use native.Mathlib.Nat.{zero-div, mod-eq_of_lt, mul_left_comm}
use native.Mathlib.Omega.{arith}
use lib.Dec.{ltb}
use lib.ListN.{length, replicate}
use borrow.Author.Tests.{lt-ltb, le-ltb}
use Rattle.refusal.specs.declared.Refusal.{Refusal}
use Rattle.refusal.specs.declared.Refusal.TheVariants.{Width, Space, Arity}
use Rattle.refusal.specs.Numbers.{number_of}
use Rattle.refusal.specs.Tests.{arity_out, refused, or_next, judged}
use Rattle.refusal.proofs.Arities.{arity_in_lem}
use Rattle.calendar_shapes.specs.declared.Shape.{Shape}
use Rattle.calendar_shapes.specs.Rule.{arity_in, Right, Sizes}
use Rattle.calendar_shapes.proofs.Powers.{sizes, right_arity}
use Rattle.calendar_cells.specs.Cells.{word_at, put_word}
use Rattle.calendar_cells.specs.Table.{arity_of, due_of, Table}
use Rattle.calendar_buckets.specs.Promises.{Cleared}
use Rattle.std.specs.Prelude.{Ok, Err}
use Rattle.calendar_ring.specs.Ring.{block_of}
use Rattle.calendar_header.specs.Rules.{open_checks, opened_calendar}
use Rattle.calendar_header.specs.Bytes.{width_of, floor_of, count_of, Header, SoundAt, times_from, state_of}
use Rattle.calendar_header.specs.Promises.{OpensCalendar}
use Rattle.calendar.specs.Steps.{BegunCalendar}
use Rattle.calendar_header.proofs.Leaves.{span_most}
use Rattle.calendar_header.proofs.Homes.{sound_of}
use Rattle.calendar_header.proofs.Tests.{arity_first}
use Rattle.calendar_header.proofs.Times.{times_none}
use Rattle.calendar_header.proofs.Writing.{put_at, Written, written_start, written_put, header_is}

-- ---- the numbers of the ring

ring_is : (w q : ℕ) → w * (16 * q) ≡ 16 * (w * q)
ring_is w q = mul_left_comm w 16 q

pub ring_fits : (w q : ℕ) → w ≤ 1048576 → q ≤ 4096 → w * (16 * q) ≤ 68719476736
ring_fits w q mw mq = omega (arith, ring_is w q, span_most w q mw mq)

-- ---- begin

pub begun : (xs y0 y1 y2 y3 y4 y5 ys : List ℕ) (n w q : ℕ) → n ≤ 256 → w ≤ 1048576 → q ≤ 4096 → y0 ≡ put_word 0 w xs → y1 ≡ put_word 1 0 y0 → y2 ≡ put_word 2 0 y1
    → y3 ≡ put_word 3 (w * q) y2 → y4 ≡ put_word 4 (w * (16 * q)) y3 → y5 ≡ put_word 5 0 y4 → ys ≡ put_word 6 n y5 → BegunCalendar n w q xs ys
begun xs y0 y1 y2 y3 y4 y5 ys n w q mn mw mq e0 e1 e2 e3 e4 e5 e6 = record {
  size = all.size;
  table = all.table;
  dues = λ x l. all.dues x;
  width_is = λ h. all.words h 0 (omega arith);
  floor_is = λ h. all.words h 1 (omega arith);
  start_is = λ h. all.words h 2 (omega arith);
  end_is = λ h. all.words h 3 (omega arith);
  limit_is = λ h. all.words h 4 (omega arith);
  slot_is = λ h. all.words h 5 (omega arith);
  count_is = λ h. all.words h 6 (omega arith);
}
  where
    all : Written (put_at (put_at (put_at (put_at (put_at (put_at (put_at (λ i. word_at i xs) 0 w) 1 0) 2 0) 3 (w * q)) 4 (w * (16 * q))) 5 0) 6 n) xs ys
    all =
        written_put _ xs y5 ys 6 n
        (written_put _ xs y4 y5 5 0
        (written_put _ xs y3 y4 4 (w * (16 * q))
        (written_put _ xs y2 y3 3 (w * q)
        (written_put _ xs y1 y2 2 0
        (written_put _ xs y0 y1 1 0 (written_put _ xs xs y0 0 w (written_start xs) (omega arith) (omega arith) e0) (omega arith) (omega arith) e1)
        (omega arith) (omega arith) e2)
        (omega arith) (omega (arith, span_most w q mw mq)) e3)
        (omega arith) (omega (arith, ring_fits w q mw mq)) e4)
        (omega arith) (omega arith) e5)
        (omega arith) (omega arith) e6

-- ---- the arity

-- a row of the table has one of the four
pub right_in : (row : ℕ) (q : Shape) → row < 4 → Right row q → arity_out q.arity ≡ false
right_in row q l r = arity_in_lem row l r.arity_is

pub right_sizes : (row : ℕ) (q : Shape) → row < 4 → Right row q → Sizes q.arity
right_sizes row q l r = subst Sizes (sym r.arity_is) (sizes (3 + row) (omega arith) (omega arith))

pub right_leaves : (row : ℕ) (q : Shape) → row < 4 → Right row q → q.leaves ≤ 4096
right_leaves row q l r = omega (arith, r.leaves_is, (right_sizes row q l r).most)

-- a table cleared for the row is one of the shape's arity
pub right_clears : (row : ℕ) (q : Shape) (xs ys : List ℕ) → row < 4 → Right row q → Cleared (arity_in row) xs ys → Cleared q.arity xs ys
right_clears row q xs ys l r C =
    subst (λ (m : ℕ). Cleared m xs ys) (sym (right_arity row q (subst (λ (m : ℕ). Right m q) (sym (mod-eq_of_lt l)) r))) C

-- ---- open

module _ (xs : List ℕ) (n a w : ℕ) where
  opens_refused : (e : Refusal) → refused (number_of e) ≡ judged (open_checks n a w (length xs)) → OpensCalendar n a w xs (Err e) xs
  opens_refused e h = record { refusal = refl; answer = h; state = tt; sound = tt }

  pub open_missing : arity_out a ≡ true → OpensCalendar n a w xs (Err Arity) xs
  open_missing h = opens_refused Arity (arity_first n a w (length xs) h)

  module _ (one : arity_out a ≡ false) where
    pub open_narrow : w ≡ 0 → OpensCalendar n a w xs (Err Width) xs
    unfolding judged or_next
    open_narrow h = opens_refused Width (rw (one, lt-ltb w 1 (omega arith)))

    pub open_wide : (w ≡ 0 → ⊥) → 1048576 < w → OpensCalendar n a w xs (Err Width) xs
    unfolding judged or_next
    open_wide p h = opens_refused Width (rw (one, le-ltb w 1 (omega arith), lt-ltb 1048576 w h))

    module _ (pw : w ≡ 0 → ⊥) (mw : w ≤ 1048576) where
      width_in : ltb w 1 || ltb 1048576 w ≡ false
      width_in = rw (le-ltb w 1 (omega arith), le-ltb 1048576 w mw)

      space : ltb n 1 || (ltb 256 n || ltb (length xs) (128 * (a * a) + 64 * n)) ≡ true → OpensCalendar n a w xs (Err Space) xs
      unfolding judged or_next
      space h = opens_refused Space (rw (one, width_in, h))

      pub open_none : n ≡ 0 → OpensCalendar n a w xs (Err Space) xs
      open_none h = space (rw (lt-ltb n 1 (omega arith)))

      module _ (pn : n ≡ 0 → ⊥) where
        pub open_many : 256 < n → OpensCalendar n a w xs (Err Space) xs
        open_many h = space (rw (le-ltb n 1 (omega arith), lt-ltb 256 n h))

        -- blocks of q leaves
        module _ (mn : n ≤ 256) (q : ℕ) (eq : q ≡ a * a) where
          pub open_short : length xs < 128 * q + 64 * n → OpensCalendar n a w xs (Err Space) xs
          open_short h = space (rw (le-ltb n 1 (omega arith), le-ltb 256 n mn, lt-ltb (length xs) (128 * (a * a) + 64 * n) (omega (arith, eq))))

          module _ (room : 128 * q + 64 * n ≤ length xs) (Z : Sizes a) (ys zs : List ℕ) (C : Cleared a xs ys) (B : BegunCalendar n w q ys zs) where
            room_is : 128 * (a * a) + 64 * n ≤ length xs
            room_is = omega (arith, eq)

            long : 64 ≤ length ys
            long = omega (arith, C.size, room_is)

            absent : (x : ℕ) → x < 256 → due_of zs x ≡ 0
            absent x l = B.dues x l ∙ C.absent x l

            table : Table a zs
            table = B.table a (C.table (omega (arith, room_is, Z.low, Z.square)))

            block : block_of a w 0 ≡ 0
            block = zero-div (w * (a * a))

            open_header : Header a zs
            open_header =
                header_is a zs w 0 n (omega arith) mw (omega arith) (omega arith) mn (B.width_is long) (B.floor_is long)
                (rw block (B.start_is long ∙ omega arith)) (rw block (B.end_is long ∙ ap (λ (y : ℕ). w * y) eq ∙ omega arith))
                (rw block (B.limit_is long ∙ ap (λ (y : ℕ). w * (16 * y)) eq ∙ ring_is w (a * a) ∙ omega arith)) (rw block (B.slot_is long)) (B.count_is long)

            open_sound : SoundAt a zs
            open_sound = record {
              long = rw (B.size, C.size) (omega (arith, room_is));
              header = open_header;
              table = table;
              absent = λ x l h. absent x l;
              since = λ x l r. absurd (r (absent x l));
              homes = λ x l r. absurd (r (absent x l));
            }

            open_state : state_of zs ≡ opened_calendar n a w
            unfolding state_of
            open_state =
                let k : arity_of zs ≡ a = sym table.arity_is in
                let v : width_of zs ≡ w = B.width_is long in
                let f : floor_of zs ≡ 0 = B.floor_is long in
                let t : times_from (due_of zs) 0 (count_of zs) ≡ replicate n none =
                ap (times_from (due_of zs) 0) (B.count_is long) ∙ times_none (due_of zs) 0 n (λ x l. absent x (omega arith)) in
                λ i. record { arity = k i; width = v i; floor = f i; times = t i }

            pub open_done : OpensCalendar n a w xs (Ok tt) zs
            unfolding judged or_next
            open_done = record {
              refusal = tt;
              answer = rw (one, width_in, le-ltb n 1 (omega arith), le-ltb 256 n mn, le-ltb (length xs) (128 * (a * a) + 64 * n) room_is);
              state = open_state;
              sound = sound_of open_sound;
            }
