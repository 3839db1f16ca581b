pub mod Finds
pub mod Passed
pub mod Lowest
