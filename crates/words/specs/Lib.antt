-- Closures, steps and acceptance.
pub mod Simulation
pub mod Kinds
pub mod Acceptance
pub mod inner
