pub mod Dummy
pub mod Flight
