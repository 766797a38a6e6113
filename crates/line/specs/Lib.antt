pub mod Event
pub mod Order
pub mod Matter
pub mod Station
pub mod Answer
pub mod Widths
pub mod Flag
pub mod LastFrame
