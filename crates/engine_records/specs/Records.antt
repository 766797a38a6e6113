-- A state and a station's numbers as they stand at a byte of a list.
use Rattle.std.specs.Prelude.{not, List, ℕ, ◌+◌, eqb}
use Rattle.words.specs.Le.{load_at, store_at}
use Rattle.line.specs.declared.State.{State}
use Rattle.line.specs.declared.Config.{Config}
use Rattle.line.specs.Flag.{flag_of}

-- how many bytes each takes
abbrev pub state_bytes : ℕ
state_bytes = 32

abbrev pub config_bytes : ℕ
config_bytes = 28

unfoldable pub state_at : ℕ → List ℕ → State
state_at at xs = record {
  draw = load_at 4 at xs;
  level = load_at 4 (at + 4) xs;
  heard = load_at 4 (at + 8) xs;
  lost = load_at 4 (at + 12) xs;
  sent = load_at 4 (at + 16) xs;
  last = load_at 8 (at + 20) xs;
  reached = not (eqb (load_at 4 (at + 28) xs) 0);
}

unfoldable pub put_state : ℕ → State → List ℕ → List ℕ
put_state at s xs =
    store_at 4 (at + 28) (flag_of s.reached)
    (store_at 8 (at + 20) s.last
    (store_at 4 (at + 16) s.sent
    (store_at 4 (at + 12) s.lost (store_at 4 (at + 8) s.heard (store_at 4 (at + 4) s.level (store_at 4 at s.draw xs))))))

unfoldable pub stored_config : ℕ → List ℕ → Config
stored_config at xs = record {
  parent = load_at 2 at xs;
  calm = load_at 4 (at + 4) xs;
  spring = load_at 4 (at + 8) xs;
  threshold = load_at 4 (at + 12) xs;
  hop = load_at 4 (at + 16) xs;
  noise = load_at 4 (at + 20) xs;
  seed = load_at 4 (at + 24) xs;
}

unfoldable pub put_config : ℕ → Config → List ℕ → List ℕ
put_config at c xs =
    store_at 4 (at + 24) c.seed
    (store_at 4 (at + 20) c.noise
    (store_at 4 (at + 16) c.hop
    (store_at 4 (at + 12) c.threshold (store_at 4 (at + 8) c.spring (store_at 4 (at + 4) c.calm (store_at 2 at c.parent xs))))))
