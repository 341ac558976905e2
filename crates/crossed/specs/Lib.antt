-- Demand 3 at the C functions: the calls by their contracts, and what is asked of them.
pub mod Calls
pub mod Demand
