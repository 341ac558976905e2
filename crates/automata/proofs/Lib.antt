-- The laws of states, of the transitions that leave one, of pairs of states, of records and of their order, of deterministic automata read step by step, and of automata that accept the same words.
pub mod States
pub mod Leaving
pub mod Pairs
pub mod Records
pub mod Successors
pub mod SameWords
pub mod Ordered
pub mod Chunks
