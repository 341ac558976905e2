-- The laws of the line.
pub mod Printing
pub mod Reading
pub mod Judging
pub mod Theorems
