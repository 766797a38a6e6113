-- Which of 26, 6 and 7 the numbers of an opening meet.
use mathlib.Core.Path.{◌≡◌, refl, sym, ap, ◌∙◌}
use mathlib.Core.Bool.{Bool, true, false, cond, ◌||◌, true≢false}
use Prim.Native.Nat.{ℕ, ◌+◌, ◌*◌, ◌^◌, ◌≤◌, ◌<◌}
use native.Mathlib.Omega.{arith}
use borrow.Author.Tests.{lt-ltb, le-ltb, ltb-false}
use lib.Dec.{ltb}
use Rattle.std.specs.Prelude.{Some, None, Result, Ok, Err}
use Rattle.refusal.specs.declared.Refusal.{Refusal}
use Rattle.refusal.specs.declared.Refusal.TheVariants.{Arity, Width, Space}
use Rattle.refusal.specs.Tests.{arity_out, width_out, engine_bytes, engine_space_out}
use Rattle.refusal.proofs.Arities.{arity_in_lem, arity_none}
use Rattle.calendar_shapes.specs.declared.Entry.{Entry}
use Rattle.calendar_shapes.specs.Rule.{EntryIs}
use Rattle.calendar_shapes.proofs.Powers.{sizes}
use Rattle.engine_promises.proofs.OpeningOrder.{choosing, arity_first}

-- ---- the table's entry

module _ {arity : ℕ} {e : Entry} (E : EntryIs arity (Some e)) where
  squared : e.shape.leaves ≡ arity * arity
  squared = E.1.leaves_is ∙ ap (λ (x : ℕ). x * x) E.2

  pub leaves_most : e.shape.leaves ≤ 4096
  leaves_most =
      let s = sizes (3 + e.row) (omega arith) (omega (arith, E.0)) in
      let f : e.shape.leaves ≡ 2 ^ (3 + e.row) * 2 ^ (3 + e.row) = E.1.leaves_is ∙ ap (λ (x : ℕ). x * x) E.1.arity_is in
      omega (arith, s.most, f)

  found : arity_out arity ≡ false
  found = arity_in_lem e.row E.0 (sym E.2 ∙ E.1.arity_is)

-- ---- the answer of each test

module _ (n arity width capacity bytes : ℕ) where
  abbrev said : Result Unit Refusal
  said = choosing n arity width capacity bytes

  pub missing : EntryIs arity None → Err Arity ≡ said
  missing E = arity_first n arity width capacity bytes (arity_none arity E)

  module _ {e : Entry} (E : EntryIs arity (Some e)) where
    pub narrow : width < 1 → Err Width ≡ said
    narrow h = rw (found E, lt-ltb width 1 h)

    pub wide : 1 ≤ width → 1048576 < width → Err Width ≡ said
    wide g h = rw (found E, le-ltb width 1 g, lt-ltb 1048576 width h)

    module _ (g : 1 ≤ width) (h : width ≤ 1048576) where
      pub few : capacity < 2 → Err Space ≡ said
      few k = rw (found E, le-ltb width 1 g, le-ltb 1048576 width h, lt-ltb capacity 2 k)

      pub many : 2 ≤ capacity → 4096 < capacity → Err Space ≡ said
      many j k = rw (found E, le-ltb width 1 g, le-ltb 1048576 width h, le-ltb capacity 2 j, lt-ltb 4096 capacity k)

      pub short : 2 ≤ capacity → capacity ≤ 4096 → bytes < 128 * e.shape.leaves + 256 * n + 256 * capacity → Err Space ≡ said
      short j k l =
          let m : bytes < engine_bytes arity n capacity = omega (arith, squared E) in
          rw (found E, le-ltb width 1 g, le-ltb 1048576 width h, le-ltb capacity 2 j, le-ltb 4096 capacity k, lt-ltb bytes (engine_bytes arity n capacity) m)

      pub enough : 2 ≤ capacity → capacity ≤ 4096 → 128 * e.shape.leaves + 256 * n + 256 * capacity ≤ bytes → Ok tt ≡ said
      enough j k l =
          let m : engine_bytes arity n capacity ≤ bytes = omega (arith, squared E) in
          rw (found E, le-ltb width 1 g, le-ltb 1048576 width h, le-ltb capacity 2 j, le-ltb 4096 capacity k, le-ltb bytes (engine_bytes arity n capacity) m)

-- ---- an opening that meets none of them

pub record Passes (n arity width capacity bytes : ℕ) : Type 0 where
  pub in_table : arity_out arity ≡ false
  pub low : 1 ≤ width
  pub high : width ≤ 1048576
  pub two : 2 ≤ capacity
  pub most : capacity ≤ 4096
  pub long : engine_bytes arity n capacity ≤ bytes

neither : (a b : Bool) → (a || b) ≡ false → (a ≡ false) × (b ≡ false)
neither true b e = absurd (true≢false e)
neither false b e = (refl, e)

pub passes : (n arity width capacity bytes : ℕ) → choosing n arity width capacity bytes ≡ Ok tt
    → Passes n arity width capacity bytes
passes n arity width capacity bytes e = go (arity_out arity) (width_out width) (engine_space_out arity n capacity bytes) refl refl refl e
  where
    go : (u v w : Bool) → arity_out arity ≡ u → width_out width ≡ v → engine_space_out arity n capacity bytes ≡ w
        → ◌≡◌ {A = Result Unit Refusal} (cond u (Err Arity) (cond v (Err Width) (cond w (Err Space) (Ok tt)))) (Ok tt) → Passes n arity width capacity bytes
    go true v w p q s z = let z : ◌≡◌ {A = ℕ} 0 1 = cc in absurd (omega arith)
    go false true w p q s z = let z : ◌≡◌ {A = ℕ} 0 1 = cc in absurd (omega arith)
    go false false true p q s z = let z : ◌≡◌ {A = ℕ} 0 1 = cc in absurd (omega arith)
    go false false false p q s z =
        let wd = neither (ltb width 1) (ltb 1048576 width) q in
        let cp = neither (ltb capacity 2) (ltb 4096 capacity || ltb bytes (engine_bytes arity n capacity)) s in
        let sp = neither (ltb 4096 capacity) (ltb bytes (engine_bytes arity n capacity)) cp.1 in
        record {
          in_table = p;
          low = ltb-false width 1 wd.0;
          high = ltb-false 1048576 width wd.1;
          two = ltb-false capacity 2 cp.0;
          most = ltb-false 4096 capacity sp.0;
          long = ltb-false bytes (engine_bytes arity n capacity) sp.1;
        }
