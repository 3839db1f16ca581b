pub mod Hex
pub mod Places
pub mod Grammar
pub mod Forms
pub mod Lines
pub mod Readings
