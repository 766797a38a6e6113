pub mod CheckingOrder
pub mod Arities
