pub mod Promised
pub mod WriteTyped
pub mod WriteTests
pub mod WriteStores
pub mod WriteDraft
pub mod WriteSurvey
pub mod WriteOutput
pub mod WriteLaw
