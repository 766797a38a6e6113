pub mod StarPosts
pub mod StarHeard
