pub mod Leases
pub mod Parts
pub mod Held
