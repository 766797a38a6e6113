-- How many bitmap words lowest and extract read (document 02, change 5), over the arity a and the leaf width w. The times are those of the stations, where
-- they are registered.
use Rattle.std.specs.Prelude.{Bool, true, cond, not, ◌&&◌, List, [], ◌∷◌, ℕ, zero, suc, eqb}
use Rattle.std.proofs.Math.Option.{Option, none, some}
use Rattle.calendar_ring.specs.Ring.{block_of}

-- "A root word is zero exactly when no registered time lies in its block"
unfoldable pub none_in : ℕ → ℕ → List (Option ℕ) → ℕ → Bool
none_in a w [] b = true
none_in a w (none ∷ ts) b = none_in a w ts b
none_in a w (some t ∷ ts) b = not (eqb (block_of a w t) b) && none_in a w ts b

-- of n blocks from b on, where `zeroRoot` says which of their root words are zero: "the number of root words .. to the first that isn't zero, plus one node
-- word"; n where all are zero
unfoldable pub words_from : (ℕ → Bool) → ℕ → ℕ → ℕ
words_from zeroRoot b zero = 0
words_from zeroRoot b (suc n) = cond (zeroRoot b) (suc (words_from zeroRoot (suc b) n)) 2

-- "from the floor's block in ring order"; "it is 16 where all roots are zero"
unfoldable pub words_read : ℕ → ℕ → ℕ → List (Option ℕ) → ℕ
words_read a w floor ts = words_from (none_in a w ts) (block_of a w floor) 16
