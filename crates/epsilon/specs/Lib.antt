-- Epsilon elimination.
pub mod Eliminate
pub mod Meaning
pub mod inner
