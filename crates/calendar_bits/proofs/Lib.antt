pub mod Refreshes
