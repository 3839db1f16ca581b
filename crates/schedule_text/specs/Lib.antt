pub mod Line
pub mod Schedule
pub mod BadLine
pub mod Lengths
pub mod Report
pub mod Taken
