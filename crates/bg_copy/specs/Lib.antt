pub mod Moderation
pub mod Window
pub mod Happened
pub mod Copier
