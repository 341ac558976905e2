-- The laws of sheets.
pub mod Checking
pub mod Accepted
pub mod Numbers
pub mod Meaning
pub mod Passing
pub mod Below
pub mod Runs
pub mod Named
pub mod Words
pub mod Epsilons
pub mod Decisions
pub mod Theorems
