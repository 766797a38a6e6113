-- The plan's answer by its tests in their order, over the number of stations that the code has loaded.
use Prim.Native.Nat.{ℕ, ◌≤◌, ◌<◌}
use native.Mathlib.Omega.{arith}
use mathlib.Core.Path.{◌≡◌, sym, ap}
use mathlib.Core.Bool.{Bool, true, false, cond}
use mathlib.Core.List.{List}
use lib.Dec.{ltb}
use lib.ListN.{length}
use borrow.Author.Tests.{lt-ltb, le-ltb}
use Rattle.std.specs.Prelude.{Result, Ok, Err}
use Rattle.refusal.specs.declared.Refusal.{Refusal}
use Rattle.refusal.specs.declared.Refusal.TheVariants.{Shape, Pair, Trailing, Field, Name}
use Rattle.plan_format.specs.Lowest.{lowest}
use Rattle.plan_format.specs.Plan.{count, begins, shape_wrong, pair_wrong, field_wrong, name_wrong}
use Rattle.plan_format.specs.Reading.{judging}
use Rattle.plan_format.proofs.Lows.{lowest_found, lowest_all}

-- the answer of a plan of n stations, whose lowest wrong pair, field and name are a, f and m
abbrev pub verdict : Bool → ℕ → Bool → ℕ → ℕ → ℕ → Result ℕ Refusal
verdict shape a trails f m n =
    cond shape (Err Shape)
    (cond (ltb a n) (Err (Pair a))
    (cond trails (Err Trailing)
    (cond (ltb f n) (Err (Field f))
    (cond (ltb m n) (Err (Name m))
    (Ok n)))))

judged : (p : List ℕ) (n : ℕ) → n ≡ count p
    → judging p ≡ verdict (shape_wrong p) (lowest (pair_wrong p) n) (ltb (begins p n) (length p)) (lowest (field_wrong p) n) (lowest (name_wrong p) n) n
unfolding judging
judged p n e =
    ap (λ (m : ℕ). verdict (shape_wrong p) (lowest (pair_wrong p) m) (ltb (begins p m) (length p)) (lowest (field_wrong p) m) (lowest (name_wrong p) m) m) (sym e)

-- the lowest station that a test finds wrong, where the search for it ended there
pub lowest_is : (f : ℕ → Bool) (k n : ℕ) → k < n → ((j : ℕ) → j < k → f j ≡ false) → f k ≡ true → k ≡ lowest f n
lowest_is f k n l below e = lowest_found f k n (lowest_all f k below) e l

-- ---- the answer at each test, where the tests before it found nothing

pub shape_out : (p : List ℕ) → shape_wrong p ≡ true → judging p ≡ Err Shape
unfolding judging
shape_out p e = rw e

module _ (p : List ℕ) (n : ℕ) (counted : n ≡ count p) (shape : shape_wrong p ≡ false) where
  pub pair_out : (k : ℕ) → k < n → k ≡ lowest (pair_wrong p) n → judging p ≡ Err (Pair k)
  pair_out k l e = rw (judged p n counted, shape, ← e, lt-ltb k n l)

  module _ (pairs : lowest (pair_wrong p) n ≡ n) where
    pub bytes_follow : begins p n < length p → judging p ≡ Err Trailing
    bytes_follow l = rw (judged p n counted, shape, pairs, le-ltb n n (omega arith), lt-ltb (begins p n) (length p) l)

    module _ (ends : length p ≤ begins p n) where
      by_fields : judging p ≡ cond (ltb (lowest (field_wrong p) n) n) (Err (Field (lowest (field_wrong p) n))) (cond (ltb (lowest (name_wrong p) n) n) (Err (Name (lowest (name_wrong p) n))) (Ok n))
      by_fields = rw (judged p n counted, shape, pairs, le-ltb n n (omega arith), le-ltb (begins p n) (length p) ends)

      pub field_out : (k : ℕ) → k < n → k ≡ lowest (field_wrong p) n → judging p ≡ Err (Field k)
      field_out k l e = rw (by_fields, ← e, lt-ltb k n l)

      module _ (fields : lowest (field_wrong p) n ≡ n) where
        pub name_out : (k : ℕ) → k < n → k ≡ lowest (name_wrong p) n → judging p ≡ Err (Name k)
        name_out k l e = rw (by_fields, fields, le-ltb n n (omega arith), ← e, lt-ltb k n l)

        pub none_out : lowest (name_wrong p) n ≡ n → judging p ≡ Ok n
        none_out e = rw (by_fields, fields, e, le-ltb n n (omega arith))
