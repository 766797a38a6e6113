-- One event changed: what the bytes hold then.
pub mod Cleared
pub mod IndexChanged
pub mod Hold
pub mod Run
pub mod Unrun
pub mod Leave
