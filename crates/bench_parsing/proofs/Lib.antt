pub mod Forms
pub mod Inverse
pub mod Accepting
