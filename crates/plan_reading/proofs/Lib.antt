pub mod Promised
pub mod Judging
pub mod Filled
