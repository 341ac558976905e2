-- Pairs of states: a queue of them, and the sets that they are joined in.
pub mod inner
