-- The replies of the C functions.
pub mod Reply
pub mod Calls
pub mod ReaderReply
