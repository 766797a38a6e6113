pub mod EntryLaws
pub mod Entries
