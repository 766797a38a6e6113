-- What the matter of a kind and a value says, by number: 10 where it is unsuited.
use mathlib.Core.Path.{◌≡◌, refl, ap, ◌∙◌}
use mathlib.Core.Bool.{Bool, true, false, cond, ◌&&◌}
use mathlib.Core.List.{[], ◌∷◌}
use Prim.Native.Nat.{ℕ, ◌/◌, ◌%◌}
use lib.Dec.{eqb, ltb, leb}
use Rattle.std.specs.Prelude.{Err, Result}
use Rattle.refusal.specs.declared.Refusal.{Refusal}
use Rattle.refusal.specs.declared.Refusal.TheVariants as R
use Rattle.refusal.specs.Tests.{largest, says, or_next, judged}
use Rattle.line.specs.declared.Matter.{Matter}
use Rattle.line.specs.declared.Matter.TheVariants.{Read, Frame, Level}
use Rattle.line.specs.Matter.{suited, frame_of, matter_of, meant_says, unsuited}

abbrev Numbered : Result Matter Refusal → Type 0
Numbered m = meant_says m ≡ judged (says 10 (unsuited m) ∷ [])

matter_number : (n kind value : ℕ) → Numbered (matter_of n kind value)
unfolding matter_of frame_of judged or_next
matter_number n kind value = go (eqb kind 1) (eqb kind 2) (eqb kind 3)
  where
    one : (suits : Bool) (m : Matter) → Numbered (suited suits m)
    one true m = refl
    one false m = refl

    go : (a b d : Bool) → Numbered (cond a (suited (eqb value 0) Read) (cond b (frame_of n value) (cond d (suited (leb value largest) (Level value)) (Err R.Matter))))
    go true b d = one (eqb value 0) Read
    go false true d = one (leb (value / 256) 3 && ltb (value % 256) n) (Frame (value % 256) (value / 256))
    go false false true = one (leb value largest) (Level value)
    go false false false = refl

-- of an answer that is the definition's
pub numbered : (n kind value : ℕ) {r : Result Matter Refusal} → r ≡ matter_of n kind value → (r ≡ matter_of n kind value) × (meant_says r ≡ judged (says 10 (unsuited (matter_of n kind value)) ∷ []))
numbered n kind value e = (e, ap meant_says e ∙ matter_number n kind value)
