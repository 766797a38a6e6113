-- The pen at each station of a pass; and a pass that does not write leaves the output.
use Prim.Native.Nat.{ℕ, zero, suc, ◌+◌, ◌*◌, ◌≤◌, ◌<◌}
use native.Mathlib.Numerals.{add-one}
use native.Mathlib.Omega.{arith}
use mathlib.Core.Path.{◌≡◌, refl, ap, ap₂, ◌∙◌}
use mathlib.Core.Bool.{Bool, true, false, cond}
use mathlib.Core.List.{List}
use borrow.Author.Tests.{lt-ltb, le-leb}
use lib.ListN.{length, get_or}
use Rattle.plan_format.specs.declared.Station.{Station}
use Rattle.plan_writing.specs.declared.Pen.{Pen}
use Rattle.plan_format.specs.Lowest.{lowest}
use Rattle.plan_format.specs.Writing.{no_station, field_out, word_out}
use Rattle.plan_writing.specs.Steps.{Draft, name_bytes, ready, roomy, moved, placed, stepped, drafted, pen_of}
use Rattle.plan_writing.proofs.WriteTests.{counted_most}

-- the bytes of the first k records
unfoldable pub spread : List Station → ℕ → ℕ
spread ss zero = 0
spread ss (suc k) = spread ss k + (26 + name_bytes (get_or ss k no_station).len)

spread_most : (ss : List Station) (k : ℕ) → spread ss k ≤ 42 * k
unfolding spread
spread_most ss zero = omega arith
spread_most ss (suc k) = let h : spread ss k ≤ 42 * k = spread_most ss k in omega (arith, counted_most (get_or ss k no_station).len)

-- the pen before station k
abbrev pub pen_at : List Station → ℕ → Bool → ℕ → Pen
pen_at ss n writing k = record { n = n; k = k; at = 2 + 8 * n + spread ss k; field = lowest (field_out ss) k; name = lowest (word_out ss) k; writing = writing }

at_next : (a b c : ℕ) → a + b + 26 + c ≡ a + (b + (26 + c))
at_next a b c = omega arith

moved_at : (ss : List Station) (n : ℕ) (writing : Bool) (k : ℕ) → moved (get_or ss k no_station) (pen_at ss n writing k) ≡ pen_at ss n writing (suc k)
unfolding moved lowest spread
moved_at ss n writing k =
    let e : k + 1 ≡ suc k = add-one k in
    let f : 2 + 8 * n + spread ss k + 26 + name_bytes (get_or ss k no_station).len ≡ 2 + 8 * n + (spread ss k + (26 + name_bytes (get_or ss k no_station).len)) = at_next (2 + 8 * n) (spread ss k) (name_bytes (get_or ss k no_station).len) in
    cc

ready_at : (ss : List Station) (n : ℕ) (writing : Bool) (k : ℕ) → n ≤ 256 → k < n → ready (pen_at ss n writing k) ≡ true
ready_at ss n writing k most less =
    rw (lt-ltb k n less, le-leb n 256 most) (lt-ltb (2 + 8 * n + spread ss k) 65536 (omega (arith, spread_most ss k)))

stepped_ready : (s : Station) (d : Draft) → ready d.pen ≡ true
    → stepped s d ≡ record { pen = moved s d.pen; out = cond (roomy s d.pen (length d.out)) (placed s d.pen d.out) d.out }
unfolding stepped
stepped_ready s d h = rw h

module _ (ss : List Station) (n : ℕ) (writing : Bool) (out : List ℕ) (most : n ≤ 256) where
  abbrev start : Draft
  start = record { pen = pen_of n writing; out = out }

  pub pen_at_lem : (k : ℕ) → k ≤ n → (drafted ss k start).pen ≡ pen_at ss n writing k
  unfolding drafted lowest spread
  pen_at_lem zero l = let e : 2 + 8 * n ≡ 2 + 8 * n + 0 = omega arith in cc
  pen_at_lem (suc k) l = next (pen_at_lem k (omega arith))
    where
      next : (drafted ss k start).pen ≡ pen_at ss n writing k → (stepped (get_or ss k no_station) (drafted ss k start)).pen ≡ pen_at ss n writing (suc k)
      next e =
          ap (λ (d : Draft). d.pen) (stepped_ready (get_or ss k no_station) (drafted ss k start) (ap ready e ∙ ready_at ss n writing k most (omega arith)))
          ∙ ap (moved (get_or ss k no_station)) e
          ∙ moved_at ss n writing k

  -- the next output, from the pen before it
  pub out_next : (k : ℕ) → k < n → (drafted ss (suc k) start).out ≡ cond (roomy (get_or ss k no_station) (pen_at ss n writing k) (length (drafted ss k start).out)) (placed (get_or ss k no_station) (pen_at ss n writing k) (drafted ss k start).out) (drafted ss k start).out
  unfolding drafted
  out_next k l =
      let e : (drafted ss k start).pen ≡ pen_at ss n writing k = pen_at_lem k (omega arith) in
      ap (λ (d : Draft). d.out) (stepped_ready (get_or ss k no_station) (drafted ss k start) (ap ready e ∙ ready_at ss n writing k most l))
      ∙ ap (λ (p : Pen). cond (roomy (get_or ss k no_station) p (length (drafted ss k start).out)) (placed (get_or ss k no_station) p (drafted ss k start).out) (drafted ss k start).out) e

-- the first pass
module _ (ss : List Station) (n : ℕ) (out : List ℕ) (most : n ≤ 256) where
  same_out : (k : ℕ) → k ≤ n → (drafted ss k (record { pen = pen_of n false; out = out })).out ≡ out
  unfolding drafted
  same_out zero l = refl
  same_out (suc k) l = out_next ss n false out most k (omega arith) ∙ same_out k (omega arith)

  pub surveyed : drafted ss n (record { pen = pen_of n false; out = out }) ≡ record { pen = pen_at ss n false n; out = out }
  surveyed =
      ap₂ {C = Draft} (λ (p : Pen) (o : List ℕ). record { pen = p; out = o }) (pen_at_lem ss n false out most n (omega arith)) (same_out n (omega arith))
