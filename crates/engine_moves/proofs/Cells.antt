-- Lists of cells: parted at one of them, and what is known of each.
pub mod Split
pub mod OrderSplit
pub mod SendNodes
pub mod NoneBetween
pub mod Members
