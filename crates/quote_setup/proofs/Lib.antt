pub mod ReadingsPosted
pub mod SettingUp
