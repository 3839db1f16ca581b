pub mod Fetching
pub mod Asking
pub mod Messages
pub mod Buffers
