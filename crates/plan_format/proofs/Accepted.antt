-- A plan is accepted by exactly the definition: 1 to 256 stations, each pair right, the last record the end of the file, each number and name in range.
use Prim.Native.Nat.{ℕ, zero, suc, ◌+◌, ◌*◌, ◌≤◌, ◌<◌}
use native.Mathlib.Omega.{arith}
use mathlib.Core.Path.{◌≡◌, refl, sym, ap, subst}
use mathlib.Core.Bool.{Bool, true, false, cond}
use mathlib.Core.List.{List}
use lib.Dec.{ltb}
use Rattle.std.specs.Prelude.{Result, Ok, Err}
use lib.ListN.{length}
use borrow.Author.Tests.{ltb-false, le-ltb}
use Rattle.refusal.specs.declared.Refusal.{Refusal}
use Rattle.refusal.specs.declared.Refusal.TheVariants.{Output}
use Rattle.line.specs.Station.{InRange, number_out}
use Rattle.line.proofs.Fits.{or_false}
use Rattle.plan_format.specs.Plan.{count, begins, station_at, shape_wrong, pair_wrong, trails, field_wrong, name_out, name_wrong}
use Rattle.plan_format.specs.Lowest.{lowest}
use Rattle.plan_format.specs.Reading.{any, judging, reading, read_of}
use Rattle.plan_format.proofs.Lows.{lowest_zero, lowest_all, any_none, any_all}
use Rattle.plan_format.proofs.Pairs.{PairRight, pair_right, pair_passes}
use Rattle.plan_format.proofs.Answers.{in_room, reading_in}

-- a plan of n stations that is accepted. `whole`: the last record ends the file
pub record Accepted (p : List ℕ) (n : ℕ) : Type 0 where
  pub counted : n ≡ count p
  pub some : 1 ≤ n
  pub most : n ≤ 256
  pub right : (k : ℕ) → k < n → PairRight p k
  pub whole : begins p n ≡ length p
  pub numbers : (k : ℕ) → k < n → number_out k (station_at p k).config ≡ false
  pub names : (k : ℕ) → k < n → name_out (station_at p k) ≡ false

-- ---- the tests as facts

-- the shape is right: 1 to 256 stations, and room for their pairs
pub record Shaped (p : List ℕ) : Type 0 where
  pub some : 1 ≤ count p
  pub most : count p ≤ 256
  pub room : 2 + 8 * count p ≤ length p

pub shaped : (p : List ℕ) → shape_wrong p ≡ false → Shaped p
shaped p e =
    let a = or_false (ltb (length p) 2) _ e in
    let b = or_false (ltb (count p) 1) _ a.1 in
    let d = or_false (ltb 256 (count p)) _ b.1 in
    record { some = ltb-false (count p) 1 b.0; most = ltb-false 256 (count p) d.0; room = ltb-false (length p) (2 + 8 * count p) d.1 }

shape_passes : (p : List ℕ) → Shaped p → shape_wrong p ≡ false
shape_passes p s =
    rw (le-ltb (length p) 2 (omega arith), le-ltb (count p) 1 s.some, le-ltb 256 (count p) s.most, le-ltb (length p) (2 + 8 * count p) s.room)

-- ---- where the records end

-- the record before station n ends within the file
last_within : (p : List ℕ) (n : ℕ) → 1 ≤ n → ((k : ℕ) → k < n → PairRight p k) → begins p n ≤ length p
unfolding begins
last_within p zero h f = absurd (omega arith)
last_within p (suc k) h f = (f k (omega arith)).within

-- the first record begins after the pairs
pub begins_first : (p : List ℕ) (n : ℕ) → Accepted p n → begins p 0 ≡ 2 + 8 * n
unfolding begins
begins_first p n a = rw a.counted

pub pairs_within : (p : List ℕ) (n : ℕ) → Accepted p n → 2 + 8 * n ≤ length p
pairs_within p n a = let r = a.right 0 a.some in omega (arith, begins_first p n a)

-- ---- accepted

-- a test that refuses did not hold
passed : (b : Bool) (r : Refusal) (rest : Result ℕ Refusal) {n : ℕ} → cond b (Err r) rest ≡ Ok n → (b ≡ false) × (rest ≡ Ok n)
passed true r rest e = let z : ◌≡◌ {A = ℕ} 0 1 = cc in absurd (omega arith)
passed false r rest e = (refl, e)

pub accepted : (p : List ℕ) (n : ℕ) → judging p ≡ Ok n → Accepted p n
unfolding judging field_wrong name_wrong
accepted p n e =
    let a = passed (shape_wrong p) _ _ e in
    let b = passed (any (pair_wrong p) (count p)) _ _ a.1 in
    let d = passed (trails p) _ _ b.1 in
    let f = passed (any (field_wrong p) (count p)) _ _ d.1 in
    let g = passed (any (name_wrong p) (count p)) _ _ f.1 in
    let c : n ≡ count p = cc in
    let s = shaped p a.0 in
    let r : (k : ℕ) → k < count p → PairRight p k = λ k l. pair_right p k (any_none (pair_wrong p) (count p) k b.0 l) in
    let w : begins p (count p) ≡ length p = omega (arith, last_within p (count p) s.some r, ltb-false (begins p (count p)) (length p) d.0) in
    rw c
    (record {
      counted = refl;
      some = s.some;
      most = s.most;
      right = r;
      whole = w;
      numbers = λ k l. any_none (field_wrong p) (count p) k f.0 l;
      names = λ k l. any_none (name_wrong p) (count p) k g.0 l;
    })

pub accepts : (p : List ℕ) (n : ℕ) → Accepted p n → judging p ≡ Ok n
unfolding judging field_wrong name_wrong
accepts p n a =
    let b : Accepted p (count p) = subst (Accepted p) a.counted a in
    let s : Shaped p = record { some = b.some; most = b.most; room = pairs_within p (count p) b } in
    rw (
      shape_passes p s,
      any_all (pair_wrong p) (count p) (λ k l. pair_passes p k (b.right k l)),
      le-ltb (begins p (count p)) (length p) (omega arith),
      any_all (field_wrong p) (count p) b.numbers,
      any_all (name_wrong p) (count p) b.names,
    )
    (ap Ok (sym a.counted))

-- the stations of an accepted plan are in range, as the line's rules ask
pub accepted_in_range : (p : List ℕ) (n : ℕ) → judging p ≡ Ok n → InRange (record { count = n; config = λ k. (station_at p k).config })
accepted_in_range p n e = let a = accepted p n e in record { some = a.some; most = a.most; each = a.numbers }

-- ---- what is read into a list of so many records

-- n stations can be read: the list holds them, there are at most 256, and each pair is right
pub record Readable (p : List ℕ) (room n : ℕ) : Type 0 where
  pub held : n ≤ room
  pub few : n ≤ 256
  pub right : lowest (pair_wrong p) n ≡ n

none_readable : (p : List ℕ) (room : ℕ) → Readable p room 0
none_readable p room = record { held = omega arith; few = omega arith; right = lowest_zero (pair_wrong p) }

room_readable : (p : List ℕ) (room : ℕ) (a : Result ℕ Refusal) → judging p ≡ a → Readable p room (read_of (in_room room a))
room_readable p room (Err r) e = none_readable p room
room_readable p room (Ok n) e = by_test (ltb room n) refl
  where
    by_test : (t : Bool) → ltb room n ≡ t → Readable p room (read_of (cond t (Err Output) (Ok n)))
    by_test true h = none_readable p room
    by_test false h = let a = accepted p n e in record { held = ltb-false room n h; few = a.most; right = lowest_all (pair_wrong p) n (λ k l. pair_passes p k (a.right k l)) }

pub reading_readable : (p : List ℕ) (room : ℕ) → Readable p room (read_of (reading p room))
reading_readable p room = rw reading_in (room_readable p room (judging p) refl)
