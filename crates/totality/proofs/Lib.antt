-- The laws of totality and complement.
pub mod Merging
pub mod Filling
pub mod Rows
pub mod Writing
pub mod Passing
pub mod Answers
pub mod Made
pub mod Totalized
pub mod Words
pub mod Limits
pub mod Theorems
