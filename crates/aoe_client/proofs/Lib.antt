pub mod DueTags
pub mod Replies
pub mod Hearing
pub mod Buffers
pub mod Fetched
pub mod ServerReplies
pub mod Outlasting
