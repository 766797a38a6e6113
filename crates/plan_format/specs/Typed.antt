-- What the types of the calls' arguments say of the lists that stand for them. The promises carry it, so that a theorem about calls need not assume it.
use Rattle.std.specs.Prelude.{◌≡◌, List, ℕ, ◌<◌, length, get_or}
use Rattle.plan_format.specs.declared.Station.{Station}
use Rattle.plan_format.specs.Writing.{no_station}

-- a slice of bytes
abbrev pub AreBytes : List ℕ → Type 0
AreBytes p = (i : ℕ) → i < length p → get_or p i 0 < 256

-- a station record: each number fits its bytes, and the name has its 16
pub record Sized (s : Station) : Type 0 where
  pub parent : s.config.parent < 65536
  pub calm : s.config.calm < 4294967296
  pub spring : s.config.spring < 4294967296
  pub threshold : s.config.threshold < 4294967296
  pub hop : s.config.hop < 4294967296
  pub noise : s.config.noise < 4294967296
  pub seed : s.config.seed < 4294967296
  pub name : length s.name ≡ 16

-- a slice of them
abbrev pub AreSized : List Station → Type 0
AreSized ss = (k : ℕ) → k < length ss → Sized (get_or ss k no_station)
