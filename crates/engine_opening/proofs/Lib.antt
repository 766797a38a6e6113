pub mod Beginning
pub mod Choice
pub mod Opening
