pub mod Counts
pub mod Sectors
pub mod Bytes
pub mod Outside
pub mod Nested
pub mod Disks
pub mod StoredBlocks
