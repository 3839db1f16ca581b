pub mod Lists
pub mod Scattered
pub mod Searching
pub mod Bounds
pub mod Named
pub mod Beside
