pub mod OneDevice
pub mod StaysInStep
pub mod Commands
pub mod StaysFit
pub mod Masks
pub mod DrivesWork
pub mod DriveSteps
pub mod StepsFit
