-- What a byte, and what a list of bytes, makes of the console.
use mathlib.Core.Path.{◌≡◌, refl, sym, ap, subst, ◌∙◌}
use mathlib.Core.Logic.{◌⊎◌, inl, inr}
use mathlib.Core.List.{List, [], ◌∷◌, ◌++◌, append_assoc, append-nil}
use Prim.Native.Nat.{ℕ, zero, suc, ◌+◌, ◌≤◌, ◌<◌}
use native.Mathlib.Omega.{arith}
use native.Mathlib.Numerals.{add-one}
use lib.ListN.{length, get_or, set, take, length-append, length-set, length-take}
use lib.Seq.{take_all, take-nil, take-append-le, take-suc-set}
use Rattle.std.specs.Prelude.{Option, None, Some}
use Rattle.text.proofs.Prefixes.{next_byte}
use Rattle.bench_answers.specs.Promises.{Replied}
use Rattle.bench_console.specs.Input.{Consumed, Ended, unfed, inside, ends, whole, last}
use Rattle.bench_console.specs.Steps.{Printed, Unended, Console, Stopped, More, Last, IsReadOn, Within, AnswersAll}
use Rattle.bench_console.proofs.Lengths.{by_front}

-- no byte yet
pub unended_none : (line : List ℕ) → Unended [] line 0
unended_none line = record { front = sym (take-nil (length line)); count = sym (ap length (take-nil {A = ℕ} (length line))) }

-- the line that has not ended is answered by what the buffer has of it
pub answered : {rest line : List ℕ} {len : ℕ} {xs ys : List ℕ} → 128 ≤ length line → Unended rest line len → (P : Printed (take len line) xs ys)
    → Replied rest xs ys P.printed
answered {rest} {line} {len} {xs} {ys} room U P =
    by_front (length line) rest room (subst (λ (l : List ℕ). Replied l xs ys P.printed) U.front P.replied)

-- byte 10
pub feed_end : {xs input line : List ℕ} {len : ℕ} {ys zs : List ℕ} {b : ℕ} → b ≡ 10 → 128 ≤ length line → Printed (take len line) ys zs
    → Console xs input line len ys → Console xs (input ++ b ∷ []) line 0 zs
feed_end {xs} {input} {line} {len} {ys} {zs} {b} e room P C =
    subst (λ (x : ℕ). Console xs (input ++ x ∷ []) line 0 zs) (sym e)
    (record {
      rest = [];
      printed = C.printed ++ P.printed;
      fed = ends C.fed (answered room C.unended P);
      unended = unended_none line;
    })

-- another byte, that the buffer has room for
module _ {rest line : List ℕ} {len : ℕ} (b : ℕ) (U : Unended rest line len) where
  all_there : len < length line → take (length line) rest ≡ rest
  all_there l = take_all (length line) rest (omega (arith, l, U.count, length-take (length line) rest))

  unended_more : len < length line → Unended (rest ++ b ∷ []) (set line len b) (len + 1)
  unended_more l =
      let size : length (set line len b) ≡ length line = length-set line len b in
      let short : length (rest ++ b ∷ []) ≤ length (set line len b) =
      omega (arith, l, U.count, ap length (all_there l), length-append rest (b ∷ []), size) in
      let whole-line : take (length (set line len b)) (rest ++ b ∷ []) ≡ rest ++ b ∷ [] = take_all (length (set line len b)) (rest ++ b ∷ []) short in
      record {
        front =
            ap (λ (n : ℕ). take n (set line len b)) (add-one len) ∙ take-suc-set line len b l
            ∙ ap (λ (x : List ℕ). x ++ b ∷ []) (U.front ∙ all_there l) ∙ sym whole-line;
        count =
            omega (arith, U.count, ap length (all_there l), length-append rest (b ∷ []), ap length whole-line);
      }

  -- one that it has no room for
  unended_over : length line ≤ len → Unended (rest ++ b ∷ []) line len
  unended_over l =
      let same : take (length line) (rest ++ b ∷ []) ≡ take (length line) rest =
      take-append-le (length line) rest (b ∷ []) (omega (arith, l, U.count, length-take (length line) rest)) in
      record { front = U.front ∙ sym same; count = U.count ∙ sym (ap length same) }

module _ {xs input line : List ℕ} {len : ℕ} {ys : List ℕ} {b : ℕ} (n : b ≡ 10 → ⊥) (C : Console xs input line len ys) where
  pub feed_byte : len < length line → Console xs (input ++ b ∷ []) (set line len b) (len + 1) ys
  feed_byte l = record {
    rest = C.rest ++ b ∷ [];
    printed = C.printed;
    fed = inside b n C.fed;
    unended = unended_more b C.unended l;
  }

  pub feed_over : length line ≤ len → Console xs (input ++ b ∷ []) line len ys
  feed_over l = record {
    rest = C.rest ++ b ∷ [];
    printed = C.printed;
    fed = inside b n C.fed;
    unended = unended_over b C.unended l;
  }

-- the run ends after that line
pub stops : {xs line : List ℕ} {len : ℕ} {ys : List ℕ} (input : List ℕ) (b : ℕ) → Console xs (input ++ b ∷ []) line len ys → Stopped xs input (b ∷ []) ys
stops {xs} {line} {len} {ys} input b C = record {
  count = 1;
  printed = C.printed;
  rest = C.rest;
  answers = inr (subst (λ (l : List ℕ). Consumed xs (input ++ l) C.rest ys C.printed) (sym (take_all 1 (b ∷ []) (omega arith))) C.fed);
}

-- .. as it does after the bytes before
module _ (input : List ℕ) (i : ℕ) (h : i < length input) where
  front : (k : ℕ) → (n : ℕ) × (take n input ≡ take i input ++ take k (get_or input i 0 ∷ []))
  front zero = (i, sym (append-nil (take i input)))
  front (suc k) =
      (i + 1, next_byte input i h ∙ ap (λ (l : List ℕ). take i input ++ l) (sym (take_all (suc k) (get_or input i 0 ∷ []) (omega arith))))

  pub stops_later : {xs ys : List ℕ} (before : List ℕ) → Stopped xs (before ++ take i input) (get_or input i 0 ∷ []) ys → Stopped xs before input ys
  stops_later {xs} {ys} before S =
      let (n, e) = front S.count in
      record {
        count = n;
        printed = S.printed;
        rest = S.rest;
        answers =
            subst (λ (l : List ℕ). Ended xs l ys S.printed ⊎ Consumed xs l S.rest ys S.printed)
            (append_assoc before (take i input) (take S.count (get_or input i 0 ∷ [])) ∙ ap (λ (l : List ℕ). before ++ l) (sym e)) S.answers;
      }

pub room_after : (line : List ℕ) (len b : ℕ) → len < length line → len + 1 ≤ length (set line len b)
room_after line len b l = omega (arith, l, length-set line len b)

-- ---- a list of bytes, one after the other

pub feed_none : {xs before line : List ℕ} {len : ℕ} {ys : List ℕ} (input : List ℕ) → Console xs before line len ys
    → Console xs (before ++ take 0 input) line len ys
feed_none {xs} {before} {line} {len} {ys} input C = subst (λ (l : List ℕ). Console xs l line len ys) (sym (append-nil before)) C

pub feed_next : {xs line : List ℕ} {len : ℕ} {ys : List ℕ} (before input : List ℕ) (i : ℕ) → i < length input
    → Console xs ((before ++ take i input) ++ get_or input i 0 ∷ []) line len ys → Console xs (before ++ take (i + 1) input) line len ys
feed_next {xs} {line} {len} {ys} before input i l C =
    subst (λ (l : List ℕ). Console xs l line len ys)
    (append_assoc before (take i input) (get_or input i 0 ∷ []) ∙ ap (λ (l : List ℕ). before ++ l) (sym (next_byte input i l))) C

pub feed_all : {xs line : List ℕ} {len : ℕ} {ys : List ℕ} (before input : List ℕ) (i : ℕ) → length input ≤ i
    → Console xs (before ++ take i input) line len ys → Console xs (before ++ input) line len ys
feed_all {xs} {line} {len} {ys} before input i l C =
    subst (λ (l : List ℕ). Console xs (before ++ l) line len ys) (take_all i input l) C

-- ---- the end of the input

no_rest : (rest : List ℕ) → length rest ≡ 0 → rest ≡ []
no_rest [] e = refl
no_rest (b ∷ bs) e = absurd (omega arith)

rest_none : {rest line : List ℕ} {len : ℕ} → 128 ≤ length line → len ≤ 0 → Unended rest line len → rest ≡ []
rest_none {rest} {line} room z U = no_rest rest (omega (arith, room, z, U.count, length-take (length line) rest))

-- nothing is left of a line
pub ends_whole : {xs input line : List ℕ} {len : ℕ} {ys : List ℕ} → 128 ≤ length line → len ≤ 0 → Console xs input line len ys → Last xs input ys
ends_whole {xs} {input} {line} {len} {ys} room z C = record {
  printed = C.printed;
  ended = whole (subst (λ (l : List ℕ). Consumed xs input l ys C.printed) (rest_none room z C.unended) C.fed);
}

-- a line is left
ends_rest : {xs input ys zs : List ℕ} (rest : List ℕ) {printed more : List ℕ} → 0 < length rest → Consumed xs input rest ys printed
    → Replied rest ys zs more → Last xs input zs
ends_rest [] h F R = absurd (omega arith)
ends_rest (b ∷ bs) {printed} {more} h F R = record { printed = printed ++ more; ended = last F R }

pub ends_last : {xs input line : List ℕ} {len : ℕ} {ys zs : List ℕ} → 128 ≤ length line → 0 < len → Printed (take len line) ys zs
    → Console xs input line len ys → Last xs input zs
ends_last {xs} {input} {line} {len} {ys} {zs} room h P C =
    ends_rest C.rest (omega (arith, h, C.unended.count, length-take (length line) C.rest)) C.fed (answered room C.unended P)

-- .. and the run with it
pub last_stops : {xs input ys : List ℕ} → Last xs input ys → Stopped xs input [] ys
last_stops {xs} {input} {ys} L = record {
  count = 0;
  printed = L.printed;
  rest = [];
  answers = inl (subst (λ (l : List ℕ). Ended xs l ys L.printed) (sym (append-nil input)) L.ended);
}

-- ---- one read after the other

pub nothing_read : (xs line : List ℕ) → More xs [] line 0 xs
nothing_read xs line = record { read = []; console = record { rest = []; printed = []; fed = unfed; unended = unended_none line } }

module _ {xs line : List ℕ} {len : ℕ} {ys : List ℕ} (line' zs : List ℕ) (r : Option ℕ) (M : More xs [] line len ys)
    (on : (us input : List ℕ) → Console us input line len ys → IsReadOn us input line' r zs)
  where
    to : IsReadOn xs M.read line' r zs
    to = on xs M.read M.console

    pub read_more : (n : ℕ) → r ≡ Some n → More xs [] line' n zs
    read_more n e =
        let m : More xs M.read line' n zs = subst (λ (s : Option ℕ). IsReadOn xs M.read line' s zs) e to in
        record { read = M.read ++ m.read; console = m.console }

    pub read_to_end : r ≡ None → AnswersAll xs zs
    read_to_end e =
        let l : Last xs M.read zs = subst (λ (s : Option ℕ). IsReadOn xs M.read line' s zs) e to in
        record { input = M.read; printed = l.printed; rest = []; answers = inl l.ended }

pub stopped : {xs line : List ℕ} {len : ℕ} {ys zs : List ℕ} (M : More xs [] line len ys)
    → ((us input : List ℕ) → Console us input line len ys → (bytes : List ℕ) × Stopped us input bytes zs) → AnswersAll xs zs
stopped {xs} M on =
    let (bytes, s) = on xs M.read M.console in
    record { input = M.read ++ take s.count bytes; printed = s.printed; rest = s.rest; answers = s.answers }

pub within_some : (r : Option ℕ) (line : List ℕ) (n : ℕ) → r ≡ Some n → Within r line → n ≤ length line
within_some r line n e w = subst (λ (s : Option ℕ). Within s line) e w

-- no read said that the input has ended
pub read_so_far : {xs line : List ℕ} {len : ℕ} {ys : List ℕ} → More xs [] line len ys → AnswersAll xs ys
read_so_far M = record { input = M.read; printed = M.console.printed; rest = M.console.rest; answers = inr M.console.fed }
