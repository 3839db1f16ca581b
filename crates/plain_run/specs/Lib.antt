pub mod Entry
pub mod Guest
pub mod Event
pub mod Plan
pub mod Run
pub mod Written
