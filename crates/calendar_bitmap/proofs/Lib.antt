pub mod Bits
pub mod ChildLaws
