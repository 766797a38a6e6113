pub mod Rounding
pub mod Counting
pub mod Heights
pub mod Digits
