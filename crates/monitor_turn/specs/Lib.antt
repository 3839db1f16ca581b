pub mod Told
pub mod Opening
pub mod Collected
pub mod Work
pub mod Turned
