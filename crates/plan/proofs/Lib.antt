pub mod ReadWritten
pub mod WrittenRead
pub mod WriteRead
pub mod Inverse
