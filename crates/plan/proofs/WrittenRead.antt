-- An accepted write, read again: from what the writer accepts to what the reader gives back.
use Prim.Native.Nat.{ℕ, ◌≤◌, ◌<◌}
use native.Mathlib.Omega.{arith}
use mathlib.Core.Path.{◌≡◌, refl, sym, ap, ◌∙◌, subst}
use mathlib.Core.Bool.{Bool, true, false, cond, ◌||◌}
use mathlib.Core.List.{List}
use lib.Dec.{ltb}
use lib.ListN.{length, take, get_or}
use lib.Seq.{length-take-le, get_or-take}
use borrow.Author.Tests.{ltb-false}
use Rattle.std.specs.Prelude.{Result, Ok, Err}
use Rattle.refusal.specs.declared.Refusal.{Refusal}
use Rattle.line.specs.Station.{number_out}
use Rattle.line.proofs.Fits.{or_false}
use Rattle.plan_format.specs.declared.Station.{Station}
use Rattle.plan_format.specs.Plan.{station_at, name_out}
use Rattle.plan_format.specs.Typed.{Sized, AreSized}
use Rattle.plan_format.specs.Reading.{any, judging, read_of}
use Rattle.plan_format.specs.Writing.{plan_of, no_station, field_out, word_out, writing}
use Rattle.plan_format.proofs.Lows.{any_none}
use Rattle.plan_format.proofs.Names.{name_short}
use Rattle.plan.proofs.ReadWritten.{Writable, cleared, written_accepted, written_read}

-- a test that refuses did not hold
passed : (b : Bool) (r : Refusal) (rest : Result ℕ Refusal) {m : ℕ} → cond b (Err r) rest ≡ Ok m → (b ≡ false) × (rest ≡ Ok m)
passed true r rest e = let z : ◌≡◌ {A = ℕ} 0 1 = cc in absurd (omega arith)
passed false r rest e = (refl, e)

-- the stations that an accepted write wrote, and how long their plan is
record Accepted (n : ℕ) (ss : List Station) (m : ℕ) : Type 0 where
  pub writable : Writable (take n ss)
  pub count : length (take n ss) ≡ n
  pub size : length (plan_of (take n ss)) ≡ m

module _ (n : ℕ) (ss : List Station) (room m : ℕ) (e : writing n ss room ≡ Ok m) (sized : AreSized ss) where
  accepted : Accepted n ss m
  unfolding writing
  accepted =
      let a = passed (ltb n 1 || (ltb 256 n || ltb (length ss) n)) _ _ e in
      let b = or_false (ltb n 1) _ a.0 in
      let c = or_false (ltb 256 n) _ b.1 in
      let d = passed (any (field_out ss) n) _ _ a.1 in
      let f = passed (any (word_out ss) n) _ _ d.1 in
      let g = passed (ltb room (length (plan_of (take n ss)))) _ _ f.1 in
      let h : n ≤ length ss = ltb-false (length ss) n c.1 in
      let l : length (take n ss) ≡ n = length-take-le n ss h in
      record {
        writable = record {
          some = subst (λ j. 1 ≤ j) (sym l) (ltb-false n 1 b.0);
          most = subst (λ j. j ≤ 256) (sym l) (ltb-false 256 n c.0);
          sized = λ k j. let i : k < n = omega arith in subst Sized (sym (get_or-take n ss k no_station i)) (sized k (omega arith));
          numbers = λ k j. let i : k < n = omega arith in ap (λ s. number_out k s.config) (get_or-take n ss k no_station i) ∙ any_none (field_out ss) n k d.0 i;
          names = λ k j. let i : k < n = omega arith in ap name_out (get_or-take n ss k no_station i) ∙ any_none (word_out ss) n k f.0 i;
        };
        count = l;
        size = ap read_of g.1;
      }

  pub write_length : length (plan_of (take n ss)) ≡ m
  write_length = accepted.size

  -- the plan that was written is accepted
  pub write_accepted : judging (plan_of (take n ss)) ≡ Ok n
  write_accepted = written_accepted (take n ss) accepted.writable ∙ ap Ok accepted.count

  -- and its stations are those that were written, with zeros after their names
  pub write_then_read : (k : ℕ) → k < n → station_at (plan_of (take n ss)) k ≡ cleared (get_or ss k no_station)
  write_then_read k h =
      written_read (take n ss) accepted.writable k (omega (arith, accepted.count, h)) ∙ ap cleared (get_or-take n ss k no_station h)

  -- a name that was written is no longer than its bytes
  pub write_short : (k : ℕ) → k < n → (get_or ss k no_station).len ≤ length (get_or ss k no_station).name
  write_short k h =
      let w = accepted.writable in
      let i : k < length (take n ss) = omega (arith, accepted.count, h) in
      let s = name_short (get_or (take n ss) k no_station) (w.names k i) in
      subst (λ (s : Station). s.len ≤ length s.name) (get_or-take n ss k no_station h) (omega (arith, s, (w.sized k i).name))
