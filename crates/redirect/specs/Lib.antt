pub mod Read
pub mod Next
pub mod Meaning
pub mod Piece
pub mod Scatter
