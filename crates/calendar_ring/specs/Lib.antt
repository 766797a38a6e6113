pub mod Ring
pub mod WordsRead
