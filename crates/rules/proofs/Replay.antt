-- The held events as a replay of the plain machine, and what each elementary change makes of that.
pub mod Replay
pub mod Unmark
pub mod Delete
pub mod Place
pub mod Mark
pub mod EntriesKept
pub mod RunsLeft
pub mod Neat
pub mod Unique
pub mod LeastUnrun
pub mod Registered
pub mod OtherStations
