pub mod Recording
pub mod LogFront
pub mod UnrunBefore
pub mod Counting
pub mod Writing
pub mod CommitChecks
pub mod Committing
