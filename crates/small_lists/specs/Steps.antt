-- What a step of writing the lists ensures.
use Rattle.std.specs.Prelude.{ℕ, ◌≡◌, List, [], get_or}
use Rattle.small_lists.specs.Listing.{listing, four_bytes}

-- the four bytes of list i
abbrev pub IsList : ℕ → List ℕ → Type 0
IsList i r = four_bytes (get_or listing i []) ≡ r
