-- Emptiness.
pub mod Reachable
pub mod inner
