-- Whether an automaton is a part of another, by the labels of their states.
pub mod Inclusion
pub mod Answer
pub mod inner
