-- The theory of two determinizations, and what the functions' proofs cite.
pub mod Answers
pub mod Theorems
pub mod Fronts
pub mod Runs
