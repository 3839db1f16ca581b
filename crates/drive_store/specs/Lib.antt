pub mod Store
pub mod MemoryStore
pub mod FailingStore
