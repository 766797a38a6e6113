pub mod RecordLaws
pub mod Fits
pub mod Cells
