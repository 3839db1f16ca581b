pub mod Identity
pub mod Request
pub mod Reply
pub mod Serving
