-- The laws of what a text means.
pub mod Memory
pub mod Tables
pub mod Labelling
pub mod Entering
pub mod ReadInvariant
pub mod Marking
pub mod Spelling
pub mod Reading
pub mod Said
pub mod Outcomes
pub mod Appearance
pub mod Call
pub mod Theorems
pub mod Examples
