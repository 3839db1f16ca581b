pub mod Bus
pub mod Alike
pub mod Plain
pub mod Guest
pub mod Steps
pub mod Whole
pub mod GuestSteps
pub mod Resting
