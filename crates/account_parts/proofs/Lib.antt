pub mod OneEntry
pub mod Costs
pub mod FirstEntries
pub mod Joined
pub mod WholeParts
pub mod Chunks
