pub mod Posts
pub mod FirstLines
pub mod OrdersTaken
pub mod LinesTaken
pub mod LineEnds
