-- Laws of the test program's sets and of its run.
pub mod Chains
pub mod Runs
