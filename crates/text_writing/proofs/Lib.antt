pub mod Fitting
pub mod Appending
pub mod Backward
