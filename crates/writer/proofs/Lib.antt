-- The laws of writing patterns.
pub mod Derived
pub mod Words
pub mod Reading
pub mod Conditions
pub mod Exactly
pub mod Taken
pub mod Left
pub mod Theorems
pub mod Samples
pub mod Marks
pub mod Places
pub mod Gathering
pub mod Counting
pub mod Naming
pub mod TextParts
pub mod Putting
pub mod Answers
