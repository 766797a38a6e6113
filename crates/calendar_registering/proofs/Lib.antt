pub mod Entering
pub mod Registering
pub mod Extracting
