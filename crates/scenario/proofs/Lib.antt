pub mod Forms
pub mod Taking
pub mod Lines
pub mod OneList
