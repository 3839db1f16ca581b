pub mod Free
pub mod Quiet
pub mod View
pub mod Seen
pub mod Sides
pub mod Handover
pub mod Lending
pub mod Writing
