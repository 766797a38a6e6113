-- Where the index stands, which node is a slot's, and where nothing is done.
pub mod Layout
pub mod Range
pub mod Refusals
pub mod FoundSlot
