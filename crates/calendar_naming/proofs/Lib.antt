pub mod Order
pub mod Overflow
pub mod Naming
