-- An event's matter, its kind and its value (document 01, "Events and stations" and number 10; document 02, change 2).
use Rattle.std.specs.Prelude.{ℕ, ◌+◌, ◌*◌, ◌/◌, ◌%◌, ◌≡◌, Bool, true, false, cond, ◌&&◌, eqb, ltb, leb, Ok, Err, Result}
use Rattle.refusal.specs.declared.Refusal.{Refusal}
use Rattle.refusal.specs.Numbers.{number_of}
use Rattle.refusal.specs.Tests.{largest, Verdict, accepted, refused}
use Rattle.refusal.specs.declared.Refusal.TheVariants as R
use Rattle.line.specs.declared.Matter.{Matter}
use Rattle.line.specs.declared.Matter.TheVariants.{Read, Frame, Level}

-- 10: "the kind isn't 1 to 3, or its value doesn't suit it (a level's is at most 4294967295)"
abbrev pub suited : Bool → Matter → Result Matter Refusal
suited suits m = cond suits (Ok m) (Err R.Matter)

-- "Number 10 refuses a posted frame whose repeats exceed 3 or whose origin is N or more." (document 02, change 2) N is at most 256, so the origin is the
-- value modulo 256, and the rest of it is 256 times the repeats
unfoldable pub frame_of : ℕ → ℕ → Result Matter Refusal
frame_of n value = suited (leb (value / 256) 3 && ltb (value % 256) n) (Frame (value % 256) (value / 256))

-- "a reading (kind 1, value 0), a frame with its origin (2, ..) or a level (3, value in mm)"
unfoldable pub matter_of : ℕ → ℕ → ℕ → Result Matter Refusal
matter_of n kind value =
    cond (eqb kind 1) (suited (eqb value 0) Read)
    (cond (eqb kind 2) (frame_of n value)
    (cond (eqb kind 3) (suited (leb value largest) (Level value)) (Err R.Matter)))

-- the number that an answer says
abbrev pub meant_says : Result Matter Refusal → Verdict
meant_says (Ok m) = accepted
meant_says (Err e) = refused (number_of e)

-- 10, of what a kind and a value mean
abbrev pub unsuited : Result Matter Refusal → Bool
unsuited (Ok m) = false
unsuited (Err e) = true

abbrev pub kind_of : Matter → ℕ
kind_of Read = 1
kind_of (Frame origin repeats) = 2
kind_of (Level mm) = 3

-- "A frame's value becomes its origin plus 256 times the repeats made, 0 to 3." (document 02, change 2)
abbrev pub value_of : Matter → ℕ
value_of Read = 0
value_of (Frame origin repeats) = origin + 256 * repeats
value_of (Level mm) = mm

-- the matter m is one that number 10 accepts on a line of n stations
abbrev pub Suits : ℕ → Matter → Type 0
Suits n m = matter_of n (kind_of m) (value_of m) ≡ Ok m
