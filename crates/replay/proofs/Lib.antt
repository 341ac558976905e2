-- The laws of lines and cases.
pub mod Lines
pub mod Cases
pub mod Counting
