-- The laws of ranges, cuts and holes.
pub mod Cuts
pub mod Spans
pub mod Separate
pub mod Held
pub mod Scanned
pub mod Missing
pub mod Overlap
pub mod Sorting
pub mod Functional
pub mod Runs
pub mod SortedCuts
pub mod Writing
pub mod Theorems
pub mod Inside
