-- The laws of closures, steps and acceptance.
pub mod Visiting
pub mod Kind
pub mod Closures
pub mod Simulation
pub mod Outgoing
pub mod Gather
pub mod Rows
pub mod Epsilons
pub mod Stepping
pub mod Reading
pub mod Answers
pub mod Theorems
