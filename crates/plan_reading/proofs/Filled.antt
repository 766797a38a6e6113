-- A list whose first records are set one after the other.
use Prim.Native.Nat.{ℕ, suc, ◌+◌, ◌≤◌, ◌<◌}
use native.Mathlib.Numerals.{add-one}
use native.Mathlib.Omega.{arith}
use mathlib.Core.Path.{◌≡◌, refl, sym, ap, ◌∙◌}
use mathlib.Core.List.{List, [], ◌∷◌, ◌++◌, append_assoc}
use lib.ListN.{length, set, get_or, drop, length-append, length-drop}
use lib.Seq.{drop-cons, set_at}
use Rattle.plan_format.specs.declared.Station.{Station}
use Rattle.plan_format.specs.Plan.{station_at, stations_from}
use Rattle.plan_format.specs.Writing.{no_station}
use Rattle.plan_format.proofs.Stations.{length_from, from_last}

-- the plan's first n stations, and what stood after them
unfoldable pub filled : List ℕ → ℕ → List Station → List Station
filled p n ys = stations_from p 0 n ++ drop n ys

pub filled_is : (p : List ℕ) (n : ℕ) (ys : List Station) → filled p n ys ≡ stations_from p 0 n ++ drop n ys
unfolding filled
filled_is p n ys = refl

pub filled_zero : (p : List ℕ) (ys : List Station) → filled p 0 ys ≡ ys
unfolding filled stations_from
filled_zero p ys = refl

pub length_filled : (p : List ℕ) (n : ℕ) (ys : List Station) → n ≤ length ys → length (filled p n ys) ≡ length ys
unfolding filled
length_filled p n ys h = simp (length-append, length_from, length-drop) (omega arith)

pub filled_next : (p : List ℕ) (n : ℕ) (ys : List Station) → n < length ys → filled p (n + 1) ys ≡ set (filled p n ys) n (station_at p n)
unfolding filled
filled_next p n ys h =
    let e : 0 + n ≡ n = omega arith in
    ap (λ (m : ℕ). stations_from p 0 m ++ drop m ys) (add-one n)
    ∙ ap (λ (l : List Station). l ++ drop (suc n) ys) (from_last p 0 n ∙ ap (λ (m : ℕ). stations_from p 0 n ++ (station_at p m ∷ [])) e)
    ∙ append_assoc (stations_from p 0 n) (station_at p n ∷ []) (drop (suc n) ys)
    ∙ sym (set_at (stations_from p 0 n) (get_or ys n no_station) (drop (suc n) ys) (station_at p n) n (length_from p 0 n))
    ∙ ap (λ (l : List Station). set (stations_from p 0 n ++ l) n (station_at p n)) (sym (drop-cons ys n no_station h))
