-- The event order (document 01, "Events and stations"). An event's record and its matter are the declared Event and Matter of src/.
use Prim.Native.Nat.{ℕ, compare, Ordering}
use Rattle.std.specs.Prelude.{Bool, true, false, ltb}
use Rattle.line.specs.declared.Event.{Event}

-- "Source is a station, or 65535 for a post"
abbrev pub posted : ℕ
posted = 65535

-- less by the first number; where the first numbers are equal, the rest decides
unfoldable pub decide : Ordering → Bool → Bool
decide Ordering.lt rest = true
decide Ordering.eq rest = rest
decide Ordering.gt rest = false

unfoldable pub lex : ℕ → ℕ → Bool → Bool
lex m n rest = decide (compare m n) rest

-- "Events are ordered by (time, target, source, number)": a comes before b
unfoldable pub before : Event → Event → Bool
before a b = lex a.time b.time (lex a.target b.target (lex a.source b.source (ltb a.number b.number)))
