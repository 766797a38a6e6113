-- The second pass: station by station the output becomes the count, the pairs so far, the gap before the records, the records so far and the rest.
--
use Prim.Native.Nat.{ℕ, zero, suc, ◌+◌, ◌-◌, ◌*◌, ◌≤◌, ◌<◌}
use native.Mathlib.Omega.{arith}
use mathlib.Core.Path.{◌≡◌, refl, sym, ap, ap₂, subst, ◌∙◌}
use mathlib.Core.Bool.{Bool, true, false, cond}
use mathlib.Core.List.{List, [], ◌∷◌, ◌++◌, append_assoc, append-nil}
use borrow.Author.Tests.{le-ltb, le-leb, ne_eqb}
use lib.Dec.{eqb}
use lib.ListN.{length, take, drop, get_or, length-append, length-drop, take-append-drop}
use lib.Seq.{sets, sets-eq, take_at, drop_at, drop-append-add, take-suc, take-add, drop-drop, length-take-le}
use Rattle.words.specs.Le.{bytes_of}
use Rattle.words.proofs.Laws.{length_bytes}
use Rattle.plan_format.specs.declared.Station.{Station}
use Rattle.plan_format.specs.Typed.{AreSized}
use Rattle.plan_format.specs.Writing.{no_station, size_of, record_bytes, pairs_of, records_of, plan_of}
use Rattle.plan_writing.specs.Steps.{Draft, headed, placed, roomy, drafted, pen_of}
use Rattle.plan_writing.proofs.WriteDraft.{length_drafted}
use Rattle.plan_writing.proofs.WriteSurvey.{spread, pen_at, out_next}

-- ---- lists

-- a run over a part of its own length
sets_mid : (front part back xs : List ℕ) (i : ℕ) → length front ≡ i → length part ≡ length xs → sets (front ++ (part ++ back)) i xs ≡ front ++ (xs ++ back)
sets_mid front part back xs i p e =
    let h : i + length xs ≤ length (front ++ (part ++ back)) = simp (length-append) (omega arith) in
    sets-eq xs (front ++ (part ++ back)) i h
    ∙ ap₂ (λ (a b : List ℕ). (a ++ xs) ++ b) (take_at front (part ++ back) i p)
    (ap (λ (m : ℕ). drop (m + length xs) (front ++ (part ++ back))) (sym p) ∙ drop-append-add front (part ++ back) (length xs) ∙ drop_at part back (length xs) e)
    ∙ append_assoc front xs back

-- ---- the stations' bytes, one station more at the end

sizes : List Station → ℕ
sizes [] = 0
sizes (s ∷ ss) = size_of s + sizes ss

sizes_snoc : (xs : List Station) (s : Station) → sizes (xs ++ (s ∷ [])) ≡ sizes xs + size_of s
unfolding sizes
sizes_snoc [] s = omega arith
sizes_snoc (x ∷ xs) s = let e = sizes_snoc xs s in omega (arith, e)

records_snoc : (xs : List Station) (s : Station) → records_of (xs ++ (s ∷ [])) ≡ records_of xs ++ record_bytes s
unfolding records_of
records_snoc [] s = append-nil (record_bytes s)
records_snoc (x ∷ xs) s = ap (λ (l : List ℕ). record_bytes x ++ l) (records_snoc xs s) ∙ sym (append_assoc (record_bytes x) (records_of xs) (record_bytes s))

pair_of : ℕ → Station → List ℕ
pair_of at s = bytes_of 4 at ++ bytes_of 4 (size_of s)

pairs_snoc : (at : ℕ) (xs : List Station) (s : Station) → pairs_of at (xs ++ (s ∷ [])) ≡ pairs_of at xs ++ pair_of (at + sizes xs) s
unfolding pairs_of sizes pair_of
pairs_snoc at [] s = let e : at ≡ at + 0 = omega arith in ap₂ (λ (m : ℕ) (l : List ℕ). bytes_of 4 m ++ l) e (append-nil (bytes_of 4 (size_of s)))
pairs_snoc at (x ∷ xs) s =
    let e : at + size_of x + sizes xs ≡ at + (size_of x + sizes xs) = omega arith in
    ap (λ (l : List ℕ). bytes_of 4 at ++ (bytes_of 4 (size_of x) ++ l)) (pairs_snoc (at + size_of x) xs s ∙ ap (λ (m : ℕ). pairs_of (at + size_of x) xs ++ (bytes_of 4 m ++ bytes_of 4 (size_of s))) e)
    ∙ simp append_assoc

length_pairs : (at : ℕ) (xs : List Station) → length (pairs_of at xs) ≡ 8 * length xs
unfolding pairs_of
length_pairs at [] = omega arith
length_pairs at (x ∷ xs) = let e = length_pairs (at + size_of x) xs in simp (length-append, length_bytes) (omega (arith, e))

length_record : (s : Station) → s.len ≤ 16 → length s.name ≡ 16 → length (record_bytes s) ≡ size_of s
unfolding record_bytes
length_record s short name = let e : length (take s.len s.name) ≡ s.len = length-take-le s.len s.name (omega arith) in simp (length-append, length_bytes, e) (omega arith)

-- ---- the plan's length

module _ (ss : List Station) (n : ℕ) (held : n ≤ length ss) (short : (i : ℕ) → i < n → (get_or ss i no_station).len ≤ 16) (typed : AreSized ss) where
  abbrev station : ℕ → Station
  station k = get_or ss k no_station

  abbrev base : ℕ
  base = 2 + 8 * n

  abbrev Front : ℕ → List ℕ
  Front k = bytes_of 2 n ++ pairs_of base (take k ss)

  abbrev Made : ℕ → List ℕ
  Made k = records_of (take k ss)

  spread_next : (k : ℕ) → k < n → spread ss (suc k) ≡ spread ss k + size_of (station k)
  unfolding spread
  spread_next k l = rw (le-ltb 16 (station k).len (short k l))

  taken : (k : ℕ) → k < n → take (suc k) ss ≡ take k ss ++ (station k ∷ [])
  taken k l = take-suc ss k no_station (omega arith)

  sizes_are : (k : ℕ) → k ≤ n → sizes (take k ss) ≡ spread ss k
  unfolding sizes spread
  sizes_are zero l = refl
  sizes_are (suc k) l =
      let e = sizes_are k (omega arith) in
      ap sizes (taken k (omega arith)) ∙ sizes_snoc (take k ss) (station k) ∙ ap (λ (m : ℕ). m + size_of (station k)) e ∙ sym (spread_next k (omega arith))

  made_next : (k : ℕ) → k < n → Made (suc k) ≡ Made k ++ record_bytes (station k)
  made_next k l = ap records_of (taken k l) ∙ records_snoc (take k ss) (station k)

  length_made : (k : ℕ) → k ≤ n → length (Made k) ≡ spread ss k
  unfolding records_of spread
  length_made zero l = refl
  length_made (suc k) l =
      let e = length_made k (omega arith) in
      ap length (made_next k (omega arith))
      ∙ length-append (Made k) (record_bytes (station k))
      ∙ ap₂ (λ (a b : ℕ). a + b) e (length_record (station k) (short k (omega arith)) (typed k (omega (arith, held))).name)
      ∙ sym (spread_next k (omega arith))

  front_next : (k : ℕ) → k < n → Front (suc k) ≡ Front k ++ pair_of (base + spread ss k) (station k)
  front_next k l =
      ap (λ (xs : List Station). bytes_of 2 n ++ pairs_of base xs) (taken k l)
      ∙ ap (λ (ys : List ℕ). bytes_of 2 n ++ ys) (pairs_snoc base (take k ss) (station k) ∙ ap (λ (m : ℕ). pairs_of base (take k ss) ++ pair_of (base + m) (station k)) (sizes_are k (omega arith)))
      ∙ sym (append_assoc (bytes_of 2 n) (pairs_of base (take k ss)) (pair_of (base + spread ss k) (station k)))

  length_front : (k : ℕ) → k ≤ n → length (Front k) ≡ 2 + 8 * k
  length_front k l =
      length-append (bytes_of 2 n) (pairs_of base (take k ss))
      ∙ ap₂ (λ (a b : ℕ). a + b) (length_bytes 2 n) (length_pairs base (take k ss) ∙ ap (λ (m : ℕ). 8 * m) (length-take-le k ss (omega arith)))

  plan_is : plan_of (take n ss) ≡ Front n ++ Made n
  unfolding plan_of
  plan_is =
      ap (λ (m : ℕ). bytes_of 2 m ++ (pairs_of (2 + 8 * m) (take n ss) ++ Made n)) (length-take-le n ss held)
      ∙ sym (append_assoc (bytes_of 2 n) (pairs_of base (take n ss)) (Made n))

  pub plan_length : length (plan_of (take n ss)) ≡ base + spread ss n
  plan_length =
      ap length plan_is ∙ length-append (Front n) (Made n) ∙ ap₂ (λ (a b : ℕ). a + b) (length_front n (omega arith)) (length_made n (omega arith))

  -- ---- the output before each station

  module _ (out : List ℕ) (most : n ≤ 256) (room : 2 + 8 * n + spread ss n ≤ length out) where
    abbrev Gap : ℕ → List ℕ
    Gap k = take (8 * (n - k)) (drop (2 + 8 * k) out)

    abbrev Rest : ℕ → List ℕ
    Rest k = drop (base + spread ss k) out

    abbrev Whole : ℕ → List ℕ
    Whole k = Front k ++ (Gap k ++ (Made k ++ Rest k))

    spread_le : (k : ℕ) (m : ℕ) → k + m ≡ n → spread ss k ≤ spread ss n
    unfolding spread
    spread_le k zero e = let f : k ≡ n = omega arith in rw f (omega arith)
    spread_le k (suc m) e = let h : spread ss (suc k) ≤ spread ss n = spread_le (suc k) m (omega arith) in omega arith

    -- the record of station k lies in the output
    inside : (k : ℕ) → k < n → base + spread ss k + size_of (station k) ≤ length out
    inside k l = let h : spread ss (suc k) ≤ spread ss n = spread_le (suc k) (n - suc k) (omega arith) in let e = spread_next k l in omega (arith, e)

    length_gap : (k : ℕ) → k ≤ n → length (Gap k) ≡ 8 * (n - k)
    length_gap k l = length-take-le (8 * (n - k)) (drop (2 + 8 * k) out) (simp length-drop (omega arith))

    gap_next : (k : ℕ) → k < n → Gap k ≡ take 8 (drop (2 + 8 * k) out) ++ Gap (suc k)
    gap_next k l =
        let e : 8 * (n - k) ≡ 8 + 8 * (n - suc k) = omega arith in
        let f : 2 + 8 * k + 8 ≡ 2 + 8 * suc k = omega arith in
        ap (λ (m : ℕ). take m (drop (2 + 8 * k) out)) e
        ∙ take-add 8 (8 * (n - suc k)) (drop (2 + 8 * k) out)
        ∙ ap (λ (ys : List ℕ). take 8 (drop (2 + 8 * k) out) ++ take (8 * (n - suc k)) ys) (drop-drop 8 (2 + 8 * k) out ∙ ap (λ (m : ℕ). drop m out) f)

    rest_next : (k : ℕ) → k < n → Rest k ≡ take (size_of (station k)) (Rest k) ++ Rest (suc k)
    rest_next k l =
        let e : base + spread ss k + size_of (station k) ≡ base + spread ss (suc k) = let h = spread_next k l in omega (arith, h) in
        sym (take-append-drop (size_of (station k)) (Rest k))
        ∙ ap (λ (ys : List ℕ). take (size_of (station k)) (Rest k) ++ ys) (drop-drop (size_of (station k)) (base + spread ss k) out ∙ ap (λ (m : ℕ). drop m out) e)

    -- station k's pair and record stored
    stored : (k : ℕ) → k < n → sets (sets (Whole k) (2 + 8 * k) (pair_of (base + spread ss k) (station k))) (base + spread ss k) (record_bytes (station k)) ≡ Whole (suc k)
    unfolding pair_of
    stored k l =
        ap (λ (ys : List ℕ). sets ys (base + spread ss k) rec) (ap (λ (ys : List ℕ). sets (Front k ++ ys) (2 + 8 * k) pair) paired ∙ sets_mid (Front k) old (Gap (suc k) ++ (Made k ++ Rest k)) pair (2 + 8 * k) (length_front k (omega arith)) eight)
        ∙ ap (λ (ys : List ℕ). sets ys (base + spread ss k) rec) regrouped
        ∙ sets_mid before part (Rest (suc k)) rec (base + spread ss k) lengths sized
        ∙ after
      where
        pair : List ℕ
        pair = bytes_of 4 (base + spread ss k) ++ bytes_of 4 (size_of (station k))

        rec : List ℕ
        rec = record_bytes (station k)

        old : List ℕ
        old = take 8 (drop (2 + 8 * k) out)

        part : List ℕ
        part = take (size_of (station k)) (Rest k)

        before : List ℕ
        before = Front k ++ (pair ++ (Gap (suc k) ++ Made k))

        paired : Gap k ++ (Made k ++ Rest k) ≡ old ++ (Gap (suc k) ++ (Made k ++ Rest k))
        paired = ap (λ (ys : List ℕ). ys ++ (Made k ++ Rest k)) (gap_next k l) ∙ append_assoc old (Gap (suc k)) (Made k ++ Rest k)

        eight : length old ≡ length pair
        eight = length-take-le 8 (drop (2 + 8 * k) out) (simp length-drop (omega arith)) ∙ (simp (length-append, length_bytes))

        regrouped : Front k ++ (pair ++ (Gap (suc k) ++ (Made k ++ Rest k))) ≡ before ++ (part ++ Rest (suc k))
        regrouped = ap (λ (ys : List ℕ). Front k ++ (pair ++ (Gap (suc k) ++ (Made k ++ ys)))) (rest_next k l) ∙ groups (Front k) pair (Gap (suc k)) (Made k) (part ++ Rest (suc k))
          where
            groups : (a b c d e : List ℕ) → a ++ (b ++ (c ++ (d ++ e))) ≡ (a ++ (b ++ (c ++ d))) ++ e
            groups a b c d e = simp append_assoc

        lengths : length before ≡ base + spread ss k
        lengths =
            let a = length_front k (omega arith) in
            let b = length_gap (suc k) l in
            let d = length_made k (omega arith) in
            let e : length pair ≡ 8 = simp (length-append, length_bytes) in
            omega (arith, sums (Front k) pair (Gap (suc k)) (Made k))
          where
            sums : (a b c d : List ℕ) → length (a ++ (b ++ (c ++ d))) ≡ length a + (length b + (length c + length d))
            sums a b c d = simp length-append

        sized : length part ≡ length rec
        sized = length-take-le (size_of (station k)) (Rest k) (simp length-drop (omega (arith, inside k l))) ∙ sym (length_record (station k) (short k l) (typed k (omega (arith, held))).name)

        after : before ++ (rec ++ Rest (suc k)) ≡ Whole (suc k)
        after = groups (Front k) pair (Gap (suc k)) (Made k) rec (Rest (suc k)) ∙ ap₂ (λ (a b : List ℕ). a ++ (Gap (suc k) ++ (b ++ Rest (suc k)))) (sym (front_next k l)) (sym (made_next k l))
          where
            groups : (a b c d e f : List ℕ) → (a ++ (b ++ (c ++ d))) ++ (e ++ f) ≡ (a ++ b) ++ (c ++ ((d ++ e) ++ f))
            groups a b c d e f = simp append_assoc

    abbrev start : Draft
    start = record { pen = pen_of n true; out = out }

    abbrev Out : ℕ → List ℕ
    Out k = (drafted ss k start).out

    -- the count stored before the first station
    counted_first : sets out 0 (bytes_of 2 n) ≡ Whole 0
    unfolding pairs_of records_of spread
    counted_first =
        let z : base + 0 ≡ 2 + 8 * (n - 0) = omega arith in
        ap (λ (ys : List ℕ). sets ys 0 (bytes_of 2 n)) (sym (take-append-drop 2 out))
        ∙ sets_mid [] (take 2 out) (drop 2 out) (bytes_of 2 n) 0 refl (length-take-le 2 out (omega arith) ∙ sym (length_bytes 2 n))
        ∙ ap (λ (ys : List ℕ). bytes_of 2 n ++ ys) (sym (take-append-drop (8 * (n - 0)) (drop 2 out)) ∙ ap (λ (ys : List ℕ). take (8 * (n - 0)) (drop 2 out) ++ ys) (drop-drop (8 * (n - 0)) 2 out ∙ ap (λ (m : ℕ). drop m out) (sym z)))
        ∙ ap (λ (ys : List ℕ). ys ++ (take (8 * (n - 0)) (drop 2 out) ++ drop (base + 0) out)) (sym (append-nil (bytes_of 2 n)))

    roomy_at : (k : ℕ) → k < n → roomy (station k) (pen_at ss n true k) (length (Out k)) ≡ true
    roomy_at k l =
        let e : length (Out k) ≡ length out = length_drafted ss k start in
        rw (e, le-leb (station k).len 16 (short k l), le-leb (10 + 8 * k) (length out) (omega arith)) (le-leb (base + spread ss k + size_of (station k)) (length out) (inside k l))

    next : (k : ℕ) → k < n → headed (pen_at ss n true k) (Out k) ≡ Whole k → Out (suc k) ≡ Whole (suc k)
    unfolding placed pair_of
    next k l e =
        out_next ss n true out most k l
        ∙ ap (λ (t : Bool). cond t (placed (station k) (pen_at ss n true k) (Out k)) (Out k)) (roomy_at k l)
        ∙ ap (λ (ys : List ℕ). sets (sets ys (2 + 8 * k) (bytes_of 4 (base + spread ss k) ++ bytes_of 4 (size_of (station k)))) (base + spread ss k) (record_bytes (station k))) e
        ∙ stored k l

    headed_later : (k : ℕ) (ys : List ℕ) → headed (pen_at ss n true (suc k)) ys ≡ ys
    headed_later k ys = let e : eqb (suc k) 0 ≡ false = ne_eqb (suc k) 0 (λ h. omega (arith, h)) in rw e

    each_out : (k : ℕ) → k < n → Out (suc k) ≡ Whole (suc k)
    unfolding drafted
    each_out zero l = next zero l counted_first
    each_out (suc k) l = next (suc k) l (headed_later k (Out (suc k)) ∙ each_out k (omega arith))

    last : (m : ℕ) → n ≡ suc m → Out n ≡ Whole n
    last m e = subst (λ (i : ℕ). Out i ≡ Whole i) (sym e) (each_out m (omega arith))

    pub wrote : 1 ≤ n → Out n ≡ plan_of (take n ss) ++ drop (length (plan_of (take n ss))) out
    wrote some =
        let z : 8 * (n - n) ≡ 0 = omega arith in
        last (n - 1) (omega arith)
        ∙ ap (λ (m : ℕ). Front n ++ (take m (drop (2 + 8 * n) out) ++ (Made n ++ Rest n))) z
        ∙ sym (append_assoc (Front n) (Made n) (Rest n))
        ∙ ap₂ (λ (a : List ℕ) (m : ℕ). a ++ drop m out) (sym plan_is) (sym plan_length)
