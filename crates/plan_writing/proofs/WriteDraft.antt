-- A pass of the writer, station by station: its first and its next draft; and no step changes the output's length.
use Prim.Native.Nat.{ℕ, zero, suc, ◌+◌, ◌*◌}
use native.Mathlib.Numerals.{add-one}
use mathlib.Core.Path.{◌≡◌, refl, ◌∙◌}
use mathlib.Core.Bool.{Bool, true, false, cond}
use mathlib.Core.List.{List, ◌++◌}
use lib.Dec.{eqb}
use lib.ListN.{length, get_or}
use lib.Seq.{sets, length-sets}
use Rattle.words.specs.Le.{bytes_of}
use Rattle.plan_format.specs.declared.Station.{Station}
use Rattle.plan_writing.specs.declared.Pen.{Pen}
use Rattle.plan_format.specs.Writing.{no_station, size_of, record_bytes}
use Rattle.plan_writing.specs.Steps.{Draft, ready, roomy, moved, headed, placed, stepped, drafted}

pub drafted_zero : (ss : List Station) (d : Draft) → drafted ss 0 d ≡ d
unfolding drafted
drafted_zero ss d = refl

pub drafted_next : (ss : List Station) (k : ℕ) (d : Draft) → drafted ss (k + 1) d ≡ stepped (get_or ss k no_station) (drafted ss k d)
unfolding drafted
drafted_next ss k d = rw (add-one, drafted)

length_headed : (p : Pen) (out : List ℕ) → length (headed p out) ≡ length out
length_headed p out = go (eqb p.k 0)
  where
    go : (t : Bool) → length (cond t (sets out 0 (bytes_of 2 p.n)) out) ≡ length out
    go true = length-sets out 0 (bytes_of 2 p.n)
    go false = refl

length_placed : (s : Station) (p : Pen) (out : List ℕ) → length (placed s p out) ≡ length out
unfolding placed
length_placed s p out =
    length-sets (sets (headed p out) (2 + 8 * p.k) (bytes_of 4 p.at ++ bytes_of 4 (size_of s))) p.at (record_bytes s)
    ∙ length-sets (headed p out) (2 + 8 * p.k) (bytes_of 4 p.at ++ bytes_of 4 (size_of s))
    ∙ length_headed p out

length_stepped : (s : Station) (d : Draft) → length (stepped s d).out ≡ length d.out
unfolding stepped
length_stepped s d = go (ready d.pen) (roomy s d.pen (length d.out))
  where
    go : (t u : Bool) → length (cond t (record { pen = moved s d.pen; out = cond u (placed s d.pen d.out) d.out }) d).out ≡ length d.out
    go true true = length_placed s d.pen d.out
    go true false = refl
    go false u = refl

pub length_drafted : (ss : List Station) (k : ℕ) (d : Draft) → length (drafted ss k d).out ≡ length d.out
unfolding drafted
length_drafted ss zero d = refl
length_drafted ss (suc k) d = length_stepped (get_or ss k no_station) (drafted ss k d) ∙ length_drafted ss k d
