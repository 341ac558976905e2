-- The laws of marked series.
pub mod Rings
pub mod Answers
pub mod Theorems
pub mod Examples
