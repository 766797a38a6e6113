pub mod Found
pub mod Chains
pub mod Words
pub mod Inverse
pub mod Cases
