-- What fits the widths of the declared Event, State and Config: a time is of 64 bits, a station of 16, every other number of 32; a
-- frame's origin and repeats, which share its value, are of 8 each.
use Rattle.std.specs.Prelude.{◌^◌, ◌<◌}
use Rattle.line.specs.declared.Event.{Event}
use Rattle.line.specs.declared.State.{State}
use Rattle.line.specs.declared.Config.{Config}
use Rattle.line.specs.declared.Matter.{Matter}
use Rattle.line.specs.declared.Matter.TheVariants.{Read, Frame, Level}

abbrev pub MatterFits : Matter → Type 0
MatterFits Read = Unit {0}
MatterFits (Frame origin repeats) = (origin < 2 ^ 8) × (repeats < 2 ^ 8)
MatterFits (Level mm) = mm < 2 ^ 32

pub record EventFits (x : Event) : Type 0 where
  pub time : x.time < 2 ^ 64
  pub number : x.number < 2 ^ 32
  pub matter : MatterFits x.matter
  pub target : x.target < 2 ^ 16
  pub source : x.source < 2 ^ 16

pub record StateFits (s : State) : Type 0 where
  pub draw : s.draw < 2 ^ 32
  pub level : s.level < 2 ^ 32
  pub heard : s.heard < 2 ^ 32
  pub lost : s.lost < 2 ^ 32
  pub sent : s.sent < 2 ^ 32
  pub last : s.last < 2 ^ 64

pub record ConfigFits (c : Config) : Type 0 where
  pub parent : c.parent < 2 ^ 16
  pub calm : c.calm < 2 ^ 32
  pub spring : c.spring < 2 ^ 32
  pub threshold : c.threshold < 2 ^ 32
  pub hop : c.hop < 2 ^ 32
  pub noise : c.noise < 2 ^ 32
  pub seed : c.seed < 2 ^ 32
