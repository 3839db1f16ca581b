pub mod Sectors
pub mod Opening
pub mod Settle
pub mod Cells
pub mod OpeningCells
pub mod SettleCells
