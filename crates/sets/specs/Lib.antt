-- Sets of states as lists, and closures.
pub mod Sets
pub mod Closure
pub mod inner
