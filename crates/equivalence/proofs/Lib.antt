-- The theory of `is_equivalent`, and what the functions' proofs cite.
pub mod Triggers
pub mod Exact
pub mod Words
pub mod Theorems
pub mod Samples
pub mod Rows
pub mod Reading
pub mod Zipped
pub mod RunLaws
pub mod Bisimulation
pub mod WalkLaws
pub mod Answers
