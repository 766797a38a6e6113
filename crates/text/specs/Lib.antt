pub mod Decimal
pub mod Numeral
pub mod Spaced
pub mod Padded
