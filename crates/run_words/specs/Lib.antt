pub mod Pairs
pub mod Options
