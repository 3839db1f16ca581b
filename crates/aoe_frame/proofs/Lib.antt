pub mod Layouts
pub mod Readings
mod Written
