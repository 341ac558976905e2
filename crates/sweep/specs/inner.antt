-- What only inner contracts cite.
pub mod Events
pub mod Tree
pub mod Sweep
pub mod Passing
