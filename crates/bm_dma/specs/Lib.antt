pub mod Memory
pub mod Descriptor
pub mod Run
pub mod Move
