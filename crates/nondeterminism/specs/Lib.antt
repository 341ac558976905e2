-- Nondeterminism: whether an automaton has an epsilon, an overlap or a hole.
pub mod Nondeterminism
pub mod inner
