pub mod Area
pub mod Lengths
pub mod Bits
pub mod BlockSet
pub mod Bitmap
pub mod Disk
