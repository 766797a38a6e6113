pub mod Le
pub mod Sums
