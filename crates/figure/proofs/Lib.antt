pub mod Fed
pub mod Figure
