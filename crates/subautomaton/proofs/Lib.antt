-- The laws of subautomata.
pub mod Loops
pub mod Numbering
pub mod Entering
pub mod Reaching
pub mod Matching
pub mod Deciding
pub mod Answers
pub mod Theorems
pub mod Examples
