pub mod Table
pub mod Powers
