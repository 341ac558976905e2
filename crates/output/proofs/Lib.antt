-- The laws of outputs.
pub mod Answers
pub mod Left
pub mod Exact
pub mod Comparing
pub mod Heads
pub mod Merging
pub mod Halves
pub mod Joining
pub mod Halving
pub mod Collecting
