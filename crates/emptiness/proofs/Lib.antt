-- The laws of emptiness.
pub mod Paths
pub mod Marks
pub mod Targets
pub mod Search
pub mod Answers
pub mod Passes
pub mod Theorems
