pub mod CellFrames
pub mod Places
pub mod Rings
pub mod Slots
pub mod Changes
