-- What the contracts of the test support cite.
pub mod Lines
pub mod Cases
pub mod Counting
