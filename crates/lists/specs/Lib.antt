-- The definitions on lists that the other crates share.
pub mod Lists
pub mod Index
