pub mod Block
pub mod Entries
pub mod CachedStore
pub mod Drive
pub mod Data
pub mod Whole
