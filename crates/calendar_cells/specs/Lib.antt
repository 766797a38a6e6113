pub mod Cells
pub mod Lists
pub mod Tree
pub mod Table
