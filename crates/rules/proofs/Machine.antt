-- The plain machine by itself: it goes by the order, has one result, and halts.
pub mod Insert
pub mod Sorted
pub mod Feed
pub mod Halts
pub mod Plain
pub mod Log
pub mod States
