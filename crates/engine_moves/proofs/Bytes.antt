-- What a change of some bytes leaves: stations, states, sends, the count of run slots, the calendar's times.
pub mod StationTime
pub mod RunCount
pub mod StaleStation
pub mod States
pub mod Sends
