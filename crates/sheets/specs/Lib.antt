-- The sheet: what it means, and its faults.
pub mod Sheet
pub mod Fault
pub mod Checked
pub mod inner
