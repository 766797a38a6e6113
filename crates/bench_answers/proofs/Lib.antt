pub mod Printed
pub mod Answering
