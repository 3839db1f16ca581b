pub mod ByRole
pub mod Host
pub mod MemoryHost
pub mod NamedFiles
pub mod Outside
pub mod QuietFile
pub mod QuietHost
pub mod Tally
