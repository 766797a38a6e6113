pub mod Numbers
pub mod Tests
pub mod Cases
