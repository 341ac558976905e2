-- The laws of label lists.
pub mod Labels
pub mod Checking
pub mod Places
pub mod Reading
pub mod Putting
pub mod Listing
pub mod Whole
pub mod Theorems
pub mod Examples
