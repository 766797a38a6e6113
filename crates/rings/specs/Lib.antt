pub mod Table
pub mod Ring
pub mod Walk
