pub mod Named
pub mod Bytes
pub mod Words
pub mod Written
pub mod Steps
pub mod Stored
pub mod SectorBySector
