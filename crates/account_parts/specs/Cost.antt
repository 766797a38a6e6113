-- What the entries of a log cost (document 02, change 1).
use Rattle.std.specs.Prelude.{ℕ, suc, ◌+◌, cond, List, [], ◌∷◌, eqb}
use Rattle.account_parts.specs.Part.{LogEntry}

-- "A reading run costs A units at its station and a frame run costs B": by the entry's kind, 1 for a reading and 2 for a frame. A level run costs nothing
unfoldable pub cost_of : ℕ → ℕ → ℕ → ℕ
cost_of a b kind = cond (eqb kind 1) a (cond (eqb kind 2) b 0)

-- what an entry costs at station s: it is run at its target
unfoldable pub cost_here : ℕ → ℕ → ℕ → LogEntry → ℕ
cost_here a b s e = cond (eqb e.target s) (cost_of a b e.kind) 0

-- what the entries cost at station s
unfoldable pub cost_at : ℕ → ℕ → ℕ → List LogEntry → ℕ
cost_at a b s [] = 0
cost_at a b s (e ∷ es) = cost_here a b s e + cost_at a b s es

-- how many entries have that kind
unfoldable pub of_kind : ℕ → List LogEntry → ℕ
of_kind kind [] = 0
of_kind kind (e ∷ es) = cond (eqb e.kind kind) (suc (of_kind kind es)) (of_kind kind es)

-- "the readings", "the frames of the log"
abbrev pub readings : List LogEntry → ℕ
readings es = of_kind 1 es

abbrev pub frames : List LogEntry → ℕ
frames es = of_kind 2 es
