-- What only inner contracts cite.
pub mod Accepted
pub mod Passed
pub mod Runs
