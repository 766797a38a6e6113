-- Which round number a test of each of the three chooses, and how far the powers of ten have been tried.
use mathlib.Core.Path.{◌≡◌, refl, sym, ap, ◌∙◌}
use Prim.Native.Nat.{ℕ, zero, suc, ◌+◌, ◌*◌, ◌^◌, ◌≤◌, ◌<◌}
use native.Mathlib.Nat.{pow-succ', pow-le-pow_right}
use native.Mathlib.Omega.{arith}
use borrow.Author.Tests.{le-leb, lt-leb}
use Rattle.quote_numbers.specs.Rounds.{round_at, round_from, round_up}

module _ {power least : ℕ} where
  pub is_first : least ≤ power → power ≡ round_at power least
  unfolding round_at
  is_first h = rw (le-leb least power h)

  pub is_second : power < least → least ≤ 2 * power → 2 * power ≡ round_at power least
  unfolding round_at
  is_second h l = rw (lt-leb least power h, le-leb least (2 * power) l)

  pub is_third : power < least → 2 * power < least → 5 * power ≡ round_at power least
  unfolding round_at
  is_third h l = rw (lt-leb least power h, lt-leb least (2 * power) l)

-- the power of ten that is tried, with as many left after it as make twelve
pub record Tried (least power : ℕ) : Type 0 where
  pub left : ℕ
  pub made : ℕ
  pub all : left + made ≡ 12
  pub is : power ≡ 10 ^ made
  pub some : 0 < power
  pub most : power ≤ 1000000000000
  pub same : round_from left power least ≡ round_up least

pub at_first : (least : ℕ) → Tried least 1
unfolding round_up
at_first least = record { left = 12; made = 0; all = refl; is = refl; some = omega arith; most = omega arith; same = refl }

few : (j : ℕ) → j ≤ 11 → 10 ^ j ≤ 100000000000
few j h = pow-le-pow_right (omega arith) h

module _ {least power : ℕ} (t : Tried least power) where
  pub found : least ≤ 5 * power → round_at power least ≡ round_up least
  unfolding round_from
  found h = go t.left t.same
    where
      go : (k : ℕ) → round_from k power least ≡ round_up least → round_at power least ≡ round_up least
      go zero e = e
      go (suc k) e = rw (le-leb least (5 * power) h) at e

  pub next : power < 1000000000000 → 5 * power < least → Tried least (10 * power)
  unfolding round_from
  next l h = go t.left t.all t.same
    where
      go : (k : ℕ) → k + t.made ≡ 12 → round_from k power least ≡ round_up least → Tried least (10 * power)
      go zero all e =
          let z : power ≡ 10 ^ 12 = t.is ∙ ap (λ (j : ℕ). 10 ^ j) (let y : t.made ≡ 12 = omega arith in y) in
          absurd (omega arith)
      go (suc k) all e =
          record {
            left = k;
            made = suc t.made;
            all = omega arith;
            is = ap (λ (n : ℕ). 10 * n) t.is ∙ sym (pow-succ' 10 t.made);
            some = omega (arith, t.some);
            most = omega (arith, t.is, few t.made (omega arith));
            same = rw (lt-leb least (5 * power) h) at e;
          }

  pub last : 1000000000000 ≤ power → round_at power least ≡ round_up least
  unfolding round_from
  last h = go t.left t.all t.same
    where
      go : (k : ℕ) → k + t.made ≡ 12 → round_from k power least ≡ round_up least → round_at power least ≡ round_up least
      go zero all e = e
      go (suc k) all e = absurd (omega (arith, t.is, few t.made (omega arith)))
