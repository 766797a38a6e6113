-- The stations of a plan one by one.
use Prim.Native.Nat.{ℕ, zero, suc, ◌+◌, ◌<◌}
use native.Mathlib.Nat.{zero-add}
use native.Mathlib.Omega.{arith}
use mathlib.Core.Path.{◌≡◌, refl, ap, ◌∙◌}
use mathlib.Core.List.{List, [], ◌∷◌, ◌++◌}
use lib.ListN.{length, get_or, get_or-append}
use Rattle.plan_format.specs.declared.Station.{Station}
use Rattle.plan_format.specs.Plan.{station_at, stations_from}
use Rattle.plan_format.specs.Writing.{no_station}

-- so many stations are read as were asked for
pub length_from : (p : List ℕ) (k j : ℕ) → length (stations_from p k j) ≡ j
unfolding stations_from
length_from p k zero = refl
length_from p k (suc j) = ap suc (length_from p (suc k) j)

-- the last of them
pub from_last : (p : List ℕ) (k j : ℕ) → stations_from p k (suc j) ≡ stations_from p k j ++ (station_at p (k + j) ∷ [])
unfolding stations_from
from_last p k zero = let e : k ≡ k + 0 = omega arith in ap (λ (m : ℕ). station_at p m ∷ []) e
from_last p k (suc j) =
    let e : suc k + j ≡ k + suc j = omega arith in
    ap (λ (l : List Station). station_at p k ∷ l) (from_last p (suc k) j ∙ ap (λ (m : ℕ). stations_from p (suc k) j ++ (station_at p m ∷ [])) e)

-- station i of those from station k on
pub from_at : (p : List ℕ) (k n i : ℕ) (d : Station) → i < n → get_or (stations_from p k n) i d ≡ station_at p (k + i)
unfolding stations_from
from_at p k zero i d h = absurd (omega arith)
from_at p k (suc n) zero d h = let e : k ≡ k + 0 = omega arith in ap (station_at p) e
from_at p k (suc n) (suc i) d h = let e : suc k + i ≡ k + suc i = omega arith in from_at p (suc k) n i d (omega arith) ∙ ap (station_at p) e

-- station k of a list that begins with the first n of a plan
pub first_at : (p : List ℕ) (n : ℕ) (more : List Station) (k : ℕ) → k < n → get_or (stations_from p 0 n ++ more) k no_station ≡ station_at p k
first_at p n more k h =
    get_or-append (stations_from p 0 n) more no_station k (rw length_from h) ∙ from_at p 0 n k no_station h ∙ ap (station_at p) (zero-add k)
