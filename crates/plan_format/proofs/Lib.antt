pub mod Lows
pub mod Pairs
pub mod Names
pub mod Stations
pub mod Answers
pub mod Accepted
pub mod Edges
