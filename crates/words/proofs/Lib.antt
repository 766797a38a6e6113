pub mod Cases
pub mod Halves
pub mod Total
pub mod Laws
pub mod Bytes
pub mod Run
pub mod Sums
