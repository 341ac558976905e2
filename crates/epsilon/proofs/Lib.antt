-- The laws of epsilon elimination.
pub mod Members
pub mod Runs
pub mod Gathering
pub mod Parts
pub mod Writing
pub mod Answers
pub mod Result
pub mod Theorems
