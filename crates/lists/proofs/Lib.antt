-- The laws on tests and lists that the other crates share.
pub mod Tests
pub mod Lists
pub mod Parts
pub mod Members
pub mod Index
pub mod Every
pub mod Chains
