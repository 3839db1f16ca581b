pub mod Told
pub mod WaitingLaws
