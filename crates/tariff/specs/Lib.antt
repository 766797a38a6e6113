pub mod Star
pub mod Tariff
