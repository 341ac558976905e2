-- The laws of nondeterminism.
pub mod Holes
pub mod Runs
pub mod States
pub mod Deterministic
pub mod Answers
pub mod Theorems
