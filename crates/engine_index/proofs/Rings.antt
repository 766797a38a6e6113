-- The rings: what stands in each, in which order, and what its ends lead to.
pub mod Contents
pub mod NodeMoves
pub mod Order
pub mod Filing
pub mod RingEnds
pub mod RingSearches
