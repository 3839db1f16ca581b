mod Rings
mod Reverse
mod Taking
pub mod Values
