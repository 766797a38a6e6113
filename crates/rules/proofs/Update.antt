-- One station's state replaced.
use mathlib.Core.Path.{◌≡◌, refl}
use mathlib.Core.Logic.{◌≢◌}
use mathlib.Core.Bool.{true, false}
use Prim.Native.Nat.{ℕ}
use lib.Dec.{eqb}
use Rattle.line.specs.declared.State.{State}
use Rattle.line.specs.Station.{States, update}
use Rattle.line.proofs.Order.{Which, this, other, which}

eqb_same : (m : ℕ) → eqb m m ≡ true
eqb_same m = go (which m m)
  where
    go : Which m m → eqb m m ≡ true
    go (this _ e) = e
    go (other h _) = absurd (h refl)

eqb_other : {m n : ℕ} → m ≢ n → eqb m n ≡ false
eqb_other {m} {n} h = go (which m n)
  where
    go : Which m n → eqb m n ≡ false
    go (this e _) = absurd (h e)
    go (other _ e) = e

pub update_same : (f : States) (s : ℕ) (v : State) → update f s v s ≡ v
unfolding update
update_same f s v = rw (eqb_same s)

pub update_at : (f : States) {s t : ℕ} (v : State) → t ≡ s → update f s v t ≡ v
unfolding update
update_at f {s} {t} v e = rw (e, eqb_same s)

pub update_other : (f : States) {s t : ℕ} (v : State) → t ≢ s → update f s v t ≡ f t
unfolding update
update_other f v h = rw (eqb_other h)
