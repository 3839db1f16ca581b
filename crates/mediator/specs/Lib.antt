pub mod Mediator
pub mod Emitted
pub mod Ready
pub mod Couples
