-- Determinizing: parts, the table of sets and the result, and what words reach.
pub mod Partition
pub mod Determinize
pub mod Sink
pub mod Reached
pub mod Sheets
pub mod inner
