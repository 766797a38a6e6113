-- A header's word as a call reads it: at most m, and m + 1 where it is more.
use mathlib.Core.Path.{◌≡◌}
use Prim.Native.Nat.{ℕ, suc, ◌≤◌, ◌<◌}
use borrow.Author.Tests.{lt-ltb, le-ltb}
use Rattle.engine_promises.specs.Steps.{at_most}

pub over : (m : ℕ) {v w : ℕ} → v ≡ w → m < v → suc m ≡ at_most m w
over m {v} {w} e h = rw (← e, lt-ltb m v h)

pub within : (m : ℕ) {v w : ℕ} → v ≡ w → v ≤ m → v ≡ at_most m w
within m {v} {w} e h = rw (← e, le-ltb m v h)
