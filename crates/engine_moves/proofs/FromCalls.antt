-- From what the calls of a function promise to the change that it makes.
pub mod CallsOfChanges
pub mod NoneHeld
pub mod Hold
pub mod Run
pub mod Unrun
pub mod Leave
