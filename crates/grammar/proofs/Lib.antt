-- The laws of the grammar.
pub mod Letters
pub mod Runs
pub mod Comparing
pub mod Digits
pub mod Spelling
pub mod Progress
pub mod Parts
pub mod Many
pub mod Examples
