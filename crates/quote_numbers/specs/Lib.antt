pub mod Hours
pub mod Tenths
pub mod Rounds
pub mod Heights
