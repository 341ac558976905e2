-- The reader of crate `grammar` takes exactly the texts of the rules.
pub mod Runs
pub mod Complete
pub mod Sound
pub mod Theorems
pub mod Examples
