pub mod Changes
pub mod Takes
pub mod Puts
pub mod FirstStation
pub mod Clears
