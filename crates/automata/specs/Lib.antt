-- The model: automata, words, runs and acceptance.
pub mod Automaton
pub mod Deterministic
pub mod SameWords
pub mod Successors
pub mod Pairs
pub mod WellFormed
pub mod Records
pub mod Ordered
pub mod inner
