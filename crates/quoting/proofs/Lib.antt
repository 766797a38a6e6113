pub mod PostsFed
pub mod Hours
pub mod Quoting
