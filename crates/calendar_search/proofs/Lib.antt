pub mod Firsts
pub mod Laters
