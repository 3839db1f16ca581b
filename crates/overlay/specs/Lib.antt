pub mod Overlay
pub mod Steps
