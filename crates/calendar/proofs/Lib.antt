pub mod Opening
pub mod Bits
pub mod RootWords
pub mod Calls
pub mod OneName
