-- The determinizations of two automata, and their refusals in order.
pub mod Two
pub mod Determinizations
pub mod inner
