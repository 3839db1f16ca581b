pub mod Fronts
pub mod Values
pub mod Stored
pub mod Keeps
pub mod Opens
pub mod OpeningCuts
pub mod Settles
pub mod OneSector
