pub mod Lawfulness
pub mod Ends
pub mod Cells
pub mod Reaching
pub mod SectorBytes
