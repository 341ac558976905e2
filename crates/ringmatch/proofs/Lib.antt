-- The laws of replies.
pub mod Replies
pub mod Codes
pub mod Theorems
