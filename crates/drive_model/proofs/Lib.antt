mod Blocks
mod Moves
pub mod Told
pub mod Entries
pub mod Values
pub mod Worked
