-- What is written is read again: the plan of stations in range is accepted, and its stations are those, with zeros after their names.
use Prim.Native.Nat.{ℕ, zero, suc, ◌+◌, ◌-◌, ◌*◌, ◌≤◌, ◌<◌}
use native.Mathlib.Nat.{zero-add, add-zero, suc-add, add-suc, not-suc-le-zero}
use native.Mathlib.Omega.{arith}
use mathlib.Core.Path.{◌≡◌, refl, sym, ◌∙◌, ap}
use mathlib.Core.Bool.{false}
use mathlib.Core.List.{List, [], ◌∷◌, ◌++◌, append_assoc}
use lib.Dec.{lit<}
use lib.ListN.{length, get_or, take, drop, replicate, length-append, length-drop}
use lib.Seq.{drop-drop, drop_at, take_at, length-take-le}
use Rattle.std.specs.Prelude.{Ok}
use Rattle.words.proofs.Laws.{length_bytes}
use Rattle.words.proofs.Bytes.{load_found}
use Rattle.plan_format.specs.declared.Station.{Station}
use Rattle.plan_format.specs.Plan.{count, offset_of, length_of, begins, config_at, padded, station_at, name_out}
use Rattle.plan_format.specs.Reading.{judging}
use Rattle.plan_format.specs.Typed.{Sized, AreSized}
use Rattle.plan_format.specs.Writing.{size_of, record_bytes, pairs_of, records_of, plan_of, no_station, field_out, word_out}
use Rattle.plan_format.proofs.Names.{name_short}
use Rattle.plan_format.proofs.Accepted.{accepts}
use Rattle.plan_format.proofs.Pairs.{PairRight}

-- ---- what can be written

-- stations that can be written as a plan
pub record Writable (ss : List Station) : Type 0 where
  pub some : 1 ≤ length ss
  pub most : length ss ≤ 256
  pub sized : AreSized ss
  pub numbers : (k : ℕ) → k < length ss → field_out ss k ≡ false
  pub names : (k : ℕ) → k < length ss → word_out ss k ≡ false

-- ---- the name

-- the record with zeros after its name
unfoldable pub cleared : Station → Station
cleared s = record { config = s.config; name = padded (take s.len s.name); len = s.len }

module _ (s : Station) (z : Sized s) (short : s.len ≤ 16) where
  name_length : length (take s.len s.name) ≡ s.len
  name_length = length-take-le s.len s.name (omega arith)

  -- the bytes after the name are no part of it
  name_cleared : name_out (cleared s) ≡ name_out s
  unfolding name_out cleared
  name_cleared = rw (take_at (take s.len s.name) (replicate (16 - length (take s.len s.name)) 0) s.len name_length)

  record_length : length (record_bytes s) ≡ size_of s
  unfolding record_bytes
  record_length = simp (length-append, length_bytes, name_length) (omega arith)

  -- ---- the record at a place

  module _ (p rest : List ℕ) (at : ℕ) (here : drop at p ≡ record_bytes s ++ rest) where
    -- its numbers, and the place of its name
    numbers_read : (config_at p at ≡ s.config) × (drop (at + 26) p ≡ take s.len s.name ++ rest)
    unfolding record_bytes config_at
    numbers_read =
        let a = load_found 2 at (at + 2) s.config.parent p _ (lit< tt) refl z.parent (simp append_assoc at here) in
        let b = load_found 4 (at + 2) (at + 6) s.config.calm p _ (lit< tt) (omega arith) z.calm a.1 in
        let c = load_found 4 (at + 6) (at + 10) s.config.spring p _ (lit< tt) (omega arith) z.spring b.1 in
        let d = load_found 4 (at + 10) (at + 14) s.config.threshold p _ (lit< tt) (omega arith) z.threshold c.1 in
        let e = load_found 4 (at + 14) (at + 18) s.config.hop p _ (lit< tt) (omega arith) z.hop d.1 in
        let f = load_found 4 (at + 18) (at + 22) s.config.noise p _ (lit< tt) (omega arith) z.noise e.1 in
        let g = load_found 4 (at + 22) (at + 26) s.config.seed p _ (lit< tt) (omega arith) z.seed f.1 in
        (λ i. record { parent = a.0 i; calm = b.0 i; spring = c.0 i; threshold = d.0 i; hop = e.0 i; noise = f.0 i; seed = g.0 i }, g.1)

    station_read : (k : ℕ) → offset_of p k ≡ at → length_of p k ≡ size_of s → station_at p k ≡ cleared s
    unfolding station_at cleared
    station_read k o l =
        let n : size_of s - 26 ≡ s.len = omega arith in
        rw (o, l, n, numbers_read.0, numbers_read.1, take_at (take s.len s.name) rest s.len name_length)

    -- it ends in the plan, and the rest stands after it
    beyond : (drop (at + size_of s) p ≡ rest) × (at + size_of s ≤ length p)
    beyond =
        let l : length p - at ≡ size_of s + length rest = sym (length-drop at p) ∙ ap length here ∙ simp (length-append, record_length) in
        (sym (drop-drop (size_of s) at p) ∙ ap (drop (size_of s)) here ∙ drop_at (record_bytes s) rest (size_of s) record_length, omega arith)

-- ---- the stations, one by one

-- the pair of station k is right, and the station is s
record ReadAt (p : List ℕ) (k : ℕ) (s : Station) : Type 0 where
  right : PairRight p k
  station : station_at p k ≡ cleared s

-- the stations from k to the end of the plan are ss
abbrev AllRead : List ℕ → ℕ → List Station → Type 0
AllRead p k [] = begins p k ≡ length p
AllRead p k (s ∷ ss) = ReadAt p k s × AllRead p (suc k) ss

-- each of ss can be written
abbrev Each : List Station → Type 0
Each ss = (j : ℕ) → j < length ss → Sized (get_or ss j no_station) × ((get_or ss j no_station).len ≤ 16)

-- by their pairs from station k on, and their records from `at` on
all_read : (p : List ℕ) (k at : ℕ) (ss : List Station) (rest : List ℕ) → Each ss → begins p k ≡ at → at ≤ length p → at + 42 * length ss < 4294967296
    → drop (2 + 8 * k) p ≡ pairs_of at ss ++ rest → drop at p ≡ records_of ss → AllRead p k ss
unfolding pairs_of records_of begins
all_read p k at [] rest f b m t d e = omega (arith, simp length-drop at (ap length e))
all_read p k at (s ∷ ss) rest f b m t d e =
    let g = f 0 (omega arith) in
    let o = load_found 4 (2 + 8 * k) (6 + 8 * k) at p _ (lit< tt) (omega arith) (omega arith) (simp append_assoc at d) in
    let l = load_found 4 (6 + 8 * k) (2 + 8 * suc k) (size_of s) p _ (lit< tt) (omega arith) (omega arith) o.1 in
    let r = beyond s g.0 g.1 p (records_of ss) at e in
    let i = all_read p (suc k) (at + size_of s) ss rest (λ j h. f (suc j) (omega arith)) (rw (o.0, l.0)) r.1 (omega arith) l.1 r.0 in (
      record {
        right = record { placed = o.0 ∙ sym b; least = omega arith; most = omega arith; within = rw (o.0, l.0) r.1 };
        station = station_read s g.0 g.1 p (records_of ss) at e k o.0 l.0;
      },
      i,
    )

read_at : (p : List ℕ) (k : ℕ) (ss : List Station) → AllRead p k ss → (j : ℕ) → j < length ss → ReadAt p (k + j) (get_or ss j no_station)
read_at p k [] a j h = absurd (not-suc-le-zero h)
read_at p k (s ∷ ss) a zero h = rw add-zero a.0
read_at p k (s ∷ ss) a (suc j) h = rw (add-suc, ← suc-add) (read_at p (suc k) ss a.1 j (omega arith))

read_end : (p : List ℕ) (k : ℕ) (ss : List Station) → AllRead p k ss → begins p (k + length ss) ≡ length p
read_end p k [] a = rw add-zero a
read_end p k (s ∷ ss) a = rw (add-suc, ← suc-add) (read_end p (suc k) ss a.1)

-- ---- the whole plan

pairs_length : (at : ℕ) (ss : List Station) → length (pairs_of at ss) ≡ 8 * length ss
unfolding pairs_of
pairs_length at [] = refl
pairs_length at (s ∷ ss) = simp (length-append, length_bytes, pairs_length (at + size_of s) ss) (omega arith)

module _ (ss : List Station) (w : Writable ss) where
  count_read : (count (plan_of ss) ≡ length ss) × (drop 2 (plan_of ss) ≡ pairs_of (2 + 8 * length ss) ss ++ records_of ss)
  unfolding plan_of
  count_read = load_found 2 0 2 (length ss) (plan_of ss) _ (lit< tt) refl (omega arith) refl

  records_placed : drop (2 + 8 * length ss) (plan_of ss) ≡ records_of ss
  records_placed =
      sym (drop-drop (8 * length ss) 2 (plan_of ss)) ∙ ap (drop (8 * length ss)) count_read.1
      ∙ drop_at (pairs_of (2 + 8 * length ss) ss) (records_of ss) (8 * length ss) (pairs_length (2 + 8 * length ss) ss)

  plan_length : 2 + 8 * length ss ≤ length (plan_of ss)
  unfolding plan_of
  plan_length = simp (length-append, length_bytes, pairs_length (2 + 8 * length ss) ss) (omega arith)

  each_fits : Each ss
  each_fits j h = (w.sized j h, name_short (get_or ss j no_station) (w.names j h))

  plan_read : AllRead (plan_of ss) 0 ss
  unfolding begins
  plan_read =
      all_read (plan_of ss) 0 (2 + 8 * length ss) ss (records_of ss) each_fits (rw count_read.0) plan_length (omega arith)
      count_read.1 records_placed

  at_station : (k : ℕ) → k < length ss → ReadAt (plan_of ss) k (get_or ss k no_station)
  at_station k h = rw zero-add at (read_at (plan_of ss) 0 ss plan_read k h)

  -- the plan is accepted
  pub written_accepted : judging (plan_of ss) ≡ Ok (length ss)
  unfolding cleared
  written_accepted =
      accepts (plan_of ss) (length ss)
      (record {
        counted = sym count_read.0;
        some = w.some;
        most = w.most;
        right = λ k h. (at_station k h).right;
        whole = rw zero-add at (read_end (plan_of ss) 0 ss plan_read);
        numbers = λ k h. rw (at_station k h).station (w.numbers k h);
        names = λ k h. rw (at_station k h).station (name_cleared (get_or ss k no_station) (each_fits k h).0 (each_fits k h).1 ∙ w.names k h);
      })

  -- and its stations are those that were written
  pub written_read : (k : ℕ) → k < length ss → station_at (plan_of ss) k ≡ cleared (get_or ss k no_station)
  written_read k h = (at_station k h).station
