-- The theory of exact equality, and what the functions' proofs cite.
pub mod Forced
pub mod Classes
pub mod WalkedPairs
pub mod Spelling
pub mod Steps
pub mod Reading
pub mod RunLaws
pub mod WalkLaws
pub mod Comparing
pub mod Exact
pub mod Refusals
pub mod Theorems
