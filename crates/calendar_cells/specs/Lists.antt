-- Linked lists of stations in the order of (due, station), said link by link. A place below 256 is a station, and place 256 + l is the head of list l.
-- The links are functions here: nothing depends on where the bytes stand.
use Rattle.std.specs.Prelude.{◌≡◌, cond, ℕ, suc, ◌+◌, ◌-◌, ◌*◌, ◌<◌, ltb}

-- a place is a head, or a station that is registered
abbrev pub Live : (ℕ → ℕ) → ℕ → Type 0
Live due p = p < 256 → due p ≡ 0 → ⊥

-- the list of a place, where `at` has the list of each station
unfoldable pub list_of : (ℕ → ℕ) → ℕ → ℕ
list_of at p = cond (ltb p 256) (at p) (p - 256)

-- the rank of a place: a head comes first, then the stations by due and by number
unfoldable pub rank_of : (ℕ → ℕ) → ℕ → ℕ
rank_of due p = cond (ltb p 256) (due p * 256 + p) 0

-- p comes right before the station s
pub record Back (places : ℕ) (at due next : ℕ → ℕ) (p s : ℕ) : Type 0 where
  pub within : p < places
  pub live : Live due p
  pub list : list_of at p ≡ at s
  pub next_is : next p ≡ suc s
  pub below : rank_of due p < rank_of due s

-- the station n comes right after p
pub record Front (due prev : ℕ → ℕ) (p n : ℕ) : Type 0 where
  pub station : n < 256
  pub live : due n ≡ 0 → ⊥
  pub prev_is : prev n ≡ p

pub record Lists (places : ℕ) (at due next prev : ℕ → ℕ) : Type 0 where
  pub back : (s : ℕ) → s < 256 → (due s ≡ 0 → ⊥) → Back places at due next (prev s) s
  pub front : (p : ℕ) → p < places → Live due p → (n : ℕ) → next p ≡ suc n → Front due prev p n
