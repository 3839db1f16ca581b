pub mod Splits
pub mod Refusals
pub mod Once
