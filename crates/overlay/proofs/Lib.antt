pub mod Sets
pub mod Held
pub mod Values
pub mod Survivals
pub mod Starts
pub mod Cuts
pub mod StepChanges
