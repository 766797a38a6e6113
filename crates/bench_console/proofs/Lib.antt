pub mod Lengths
pub mod Feeding
