-- A run splits and joins at any of its nodes, and begins with its first link.
use mathlib.Core.Path.{◌≡◌}
use mathlib.Core.List.{List, [], ◌∷◌, ◌++◌}
use Prim.Native.Nat.{ℕ}
use Rattle.rings.specs.Ring.{last_of, head_of, Run}

module _ (nx pv : ℕ → ℕ) where
  pub run_split : (a : ℕ) (ys zs : List ℕ) → Run nx pv a (ys ++ zs) → Run nx pv a ys × Run nx pv (last_of a ys) zs
  run_split a [] zs r = (tt, r)
  run_split a (y ∷ ys) zs r = let h = run_split y ys zs r.2 in ((r.0, r.1, h.0), h.1)

  pub run_join : (a : ℕ) (ys zs : List ℕ) → Run nx pv a ys → Run nx pv (last_of a ys) zs → Run nx pv a (ys ++ zs)
  run_join a [] zs l r = r
  run_join a (y ∷ ys) zs l r = (l.0, l.1, run_join y ys zs l.2 r)

  pub run_first : (a : ℕ) (zs : List ℕ) (e : ℕ) → Run nx pv a (zs ++ e ∷ []) → (nx a ≡ head_of zs e) × (pv (head_of zs e) ≡ a)
  run_first a [] e r = (r.0, r.1)
  run_first a (z ∷ zs) e r = (r.0, r.1)
