-- The product of two automata, and what pairs of states reach.
pub mod Product
pub mod Reached
pub mod inner
