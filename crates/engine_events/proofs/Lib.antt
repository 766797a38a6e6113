pub mod CalendarShown
pub mod CalendarPart
pub mod Fitting
pub mod StationsKept
pub mod CalendarAccepts
pub mod SendNumbers
pub mod LeastStation
pub mod AfterHeader
