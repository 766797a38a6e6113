pub mod Edges
pub mod Schrage
pub mod Signed
