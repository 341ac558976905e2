-- Search in a graph: the table that a queue makes.
pub mod Search
