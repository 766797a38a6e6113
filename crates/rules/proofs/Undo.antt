-- Undo, remove and add as functions, and that they are the rules.
pub mod Cascade
pub mod Fuel
pub mod Agree
pub mod Exist
pub mod RunFirst
pub mod Count
