-- What is read is written again: the plan of an accepted plan's stations is that plan, byte for byte.
use Prim.Native.Nat.{ℕ, zero, suc, ◌+◌, ◌-◌, ◌*◌, ◌≤◌, ◌<◌}
use native.Mathlib.Nat.{zero-add}
use native.Mathlib.Omega.{arith}
use mathlib.Core.Path.{◌≡◌, refl, sym, ◌∙◌, ap}
use native.Mathlib.Decide.{dec_lt}
use mathlib.Core.Bool.{false}
use mathlib.Core.List.{List, ◌++◌, append_assoc}
use borrow.Author.Tests.{le-ltb}
use lib.Dec.{lit<}
use lib.ListN.{length, get_or, take, drop, replicate, length-append, length-drop, take-append-drop, get_or-eq_default}
use lib.Seq.{drop-drop, drop-length, take_at, length-take-le}
use Rattle.std.specs.Prelude.{Ok}
use Rattle.words.specs.Le.{load_at, bytes_of}
use Rattle.words.proofs.Bytes.{bytes_load}
use Rattle.line.specs.Station.{number_out}
use Rattle.plan_format.specs.declared.Station.{Station}
use Rattle.plan_format.specs.Plan.{offset_of, length_of, begins, config_at, padded, station_at, stations_from, name_out}
use Rattle.plan_format.specs.Typed.{AreBytes}
use Rattle.plan_format.specs.Reading.{any, judging}
use Rattle.plan_format.specs.Writing.{record_bytes, pairs_of, records_of, plan_of, no_station, field_out, word_out, writing}
use Rattle.plan_format.proofs.Lows.{any_all}
use Rattle.plan_format.proofs.Stations.{length_from, first_at}
use Rattle.plan_format.proofs.Accepted.{Accepted, accepted, begins_first, pairs_within}
use Rattle.plan_format.proofs.Pairs.{PairRight}

module _ (p : List ℕ) (bytes : (i : ℕ) → get_or p i 0 < 256) where
  -- ---- a record

  -- the name of m bytes at i, written before what follows it
  name_written : (i m : ℕ) → i + m ≤ length p → take m (padded (take m (drop i p))) ++ drop (i + m) p ≡ drop i p
  name_written i m h =
      let l : length (take m (drop i p)) ≡ m = length-take-le m (drop i p) (simp length-drop (omega arith)) in
      rw (take_at (take m (drop i p)) (replicate (16 - length (take m (drop i p))) 0) m l, ← drop-drop m i p) (take-append-drop m (drop i p))

  -- the number of 4 bytes at i, written before what follows it at j
  four : (i j : ℕ) → i + 4 ≡ j → j ≤ length p → bytes_of 4 (load_at 4 i p) ++ drop j p ≡ drop i p
  four i j e h = bytes_load 4 i j p bytes e h

  record_written : (k : ℕ) → PairRight p k → record_bytes (station_at p k) ++ drop (offset_of p k + length_of p k) p ≡ drop (offset_of p k) p
  unfolding record_bytes station_at config_at
  record_written k r =
      let at = offset_of p k in
      let e : at + length_of p k ≡ at + 26 + (length_of p k - 26) = omega arith in
      simp append_assoc
      (rw (
        e,
        name_written (at + 26) (length_of p k - 26) (omega arith),
        four (at + 22) (at + 26) (omega arith) (omega arith),
        four (at + 18) (at + 22) (omega arith) (omega arith),
        four (at + 14) (at + 18) (omega arith) (omega arith),
        four (at + 10) (at + 14) (omega arith) (omega arith),
        four (at + 6) (at + 10) (omega arith) (omega arith),
        four (at + 2) (at + 6) (omega arith) (omega arith),
      ) (bytes_load 2 at (at + 2) p bytes refl (omega arith)))

  module _ (n : ℕ) (a : Accepted p n) where
    -- ---- the records, and the pairs

    records_written : (k j : ℕ) → k + j ≡ n → records_of (stations_from p k j) ≡ drop (begins p k) p
    unfolding records_of stations_from begins
    records_written k zero e = let q : k ≡ n = omega arith in rw (q, a.whole) (sym (drop-length p))
    records_written k (suc j) e =
        let r = a.right k (omega arith) in
        rw (records_written (suc k) j (omega arith), ← r.placed) (record_written k r)

    pairs_written : (k j : ℕ) → k + j ≡ n → pairs_of (begins p k) (stations_from p k j) ++ drop (2 + 8 * n) p ≡ drop (2 + 8 * k) p
    unfolding pairs_of stations_from station_at begins
    pairs_written k zero e = let q : n ≡ k = omega arith in rw q
    pairs_written k (suc j) e =
        let r = a.right k (omega arith) in
        let z : 26 + (length_of p k - 26) ≡ length_of p k = omega arith in
        let w = pairs_within p n a in
        rw (← r.placed, z)
        (simp append_assoc
        (rw (pairs_written (suc k) j (omega arith), four (6 + 8 * k) (2 + 8 * suc k) (omega arith) (omega arith))
        (four (2 + 8 * k) (6 + 8 * k) (omega arith) (omega arith))))

    plan_written : plan_of (stations_from p 0 n) ≡ p
    unfolding plan_of
    plan_written =
        let b = begins_first p n a in
        let w = pairs_within p n a in
        rw (length_from, records_written 0 n (zero-add n), b)
        (rw (ap (λ (m : ℕ). pairs_of m (stations_from p 0 n) ++ drop (2 + 8 * n) p) (sym b) ∙ pairs_written 0 n (zero-add n), a.counted)
        (bytes_load 2 0 2 p bytes refl (omega arith)))

-- a byte past the end of a list counts as 0
past_end : (p : List ℕ) → AreBytes p → (i : ℕ) → get_or p i 0 < 256
past_end p bytes i = elim (dec_lt i (length p)) [ yes l ↦ bytes i l | no l ↦ rw (get_or-eq_default p 0 {n = i} (omega arith)) (lit< tt) ]

pub read_written : (p : List ℕ) (n : ℕ) → judging p ≡ Ok n → AreBytes p → plan_of (stations_from p 0 n) ≡ p
read_written p n e bytes = plan_written p (past_end p bytes) n (accepted p n e)

-- ---- and the writer accepts it

-- writing what was read into the front of a list, whatever stands after it: accepted, with the plan's bytes
pub read_then_write : (p : List ℕ) (n room : ℕ) (more : List Station) → judging p ≡ Ok n → AreBytes p → length p ≤ room
    → (writing n (stations_from p 0 n ++ more) room ≡ Ok (length p)) × (plan_of (take n (stations_from p 0 n ++ more)) ≡ p)
unfolding writing
read_then_write p n room more e bytes r =
    (rw (le-ltb n 1 a.some, le-ltb 256 n a.most, le-ltb (length ss) n long, fields, names, same, le-ltb room (length p) r), same)
  where
    a : Accepted p n
    a = accepted p n e

    ss : List Station
    ss = stations_from p 0 n ++ more

    long : n ≤ length ss
    long = rw (length-append, length_from) (omega arith)

    same : plan_of (take n ss) ≡ p
    same = ap plan_of (take_at (stations_from p 0 n) more n (length_from p 0 n)) ∙ read_written p n e bytes

    at : (k : ℕ) → k < n → get_or ss k no_station ≡ station_at p k
    at k h = first_at p n more k h

    fields : any (field_out ss) n ≡ false
    fields = any_all (field_out ss) n (λ k h. ap (λ (s : Station). number_out k s.config) (at k h) ∙ a.numbers k h)

    names : any (word_out ss) n ≡ false
    names = any_all (word_out ss) n (λ k h. ap name_out (at k h) ∙ a.names k h)
