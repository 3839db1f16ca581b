pub mod Blocks
pub mod Class
pub mod Piece
