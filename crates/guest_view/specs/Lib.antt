pub mod Seen
pub mod View
pub mod Drive
pub mod Steps
pub mod Fits
