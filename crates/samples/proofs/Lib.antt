-- The starred samples of document 01.
pub mod Patterns
pub mod Overlap
pub mod Single
pub mod Runs
pub mod Three
pub mod Verdicts
pub mod Allowed
pub mod Lines
pub mod Starred
