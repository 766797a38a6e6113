pub mod EntryRead
pub mod PartsFit
pub mod CommitLogs
pub mod Taken
pub mod CommittedCharge
