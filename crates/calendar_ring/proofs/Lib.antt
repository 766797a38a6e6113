pub mod Blocks
pub mod WordLaws
