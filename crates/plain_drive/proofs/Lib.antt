pub mod Cells
mod Outcomes
mod Words
pub mod Blocks
pub mod Sectors
pub mod Steps
pub mod Ends
pub mod KeepsLawful
pub mod CellEnds
pub mod Shared
pub mod Standing
pub mod EndsOfEnds
pub mod Seen
pub mod Accesses
pub mod Dressed
pub mod Likeness
pub mod SectorValues
