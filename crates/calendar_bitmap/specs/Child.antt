-- The children of a bitmap word, over their number a: "child 0 is the most significant bit" (document 01, "Calendar").
use Rattle.std.specs.Prelude.{◌≡◌, ◌⊎◌, ℕ, ◌-◌, ◌/◌, ◌%◌, ◌^◌}

-- the numbers of children that a word may have (document 02, change 9)
abbrev pub Arity : ℕ → Type 0
Arity a = (a ≡ 8) ⊎ ((a ≡ 16) ⊎ ((a ≡ 32) ⊎ (a ≡ 64)))

-- child i of a word x of a bits: 1 where it is set, else 0
unfoldable pub child : ℕ → ℕ → ℕ → ℕ
child a x i = x / 2 ^ (a - 1 - i) % 2
