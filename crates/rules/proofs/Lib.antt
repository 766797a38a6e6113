pub mod Update
pub mod Machine
pub mod Replay
pub mod Undo
pub mod Calls
