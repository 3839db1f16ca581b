pub mod Job
pub mod Own
pub mod Running
pub mod Named
pub mod Moving
pub mod Poll
pub mod Kept
