pub mod Tenths
pub mod Bytes
pub mod Numerals
pub mod Reading
pub mod Prefixes
pub mod Places
