-- The grammar of patterns.
pub mod Bytes
pub mod Words
pub mod Grammar
pub mod Places
pub mod Pieces
pub mod inner
