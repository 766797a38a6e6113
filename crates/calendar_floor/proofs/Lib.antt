pub mod Floor
pub mod Fetching
pub mod LeastBefore
pub mod Advancing
