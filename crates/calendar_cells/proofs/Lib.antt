pub mod CellLaws
pub mod DueLaws
pub mod Places
pub mod TreeLaws
pub mod TableLaws
pub mod Header
pub mod ListHead
pub mod Heads
