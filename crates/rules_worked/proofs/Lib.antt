pub mod Check
pub mod Bench
pub mod LastFrame
pub mod Ties
pub mod Words
pub mod Lists
