-- The numbers of the refusals, the answers that bear them, and what calls leave.
pub mod Number
pub mod Answer
pub mod Outcome
pub mod Reply
pub mod Decision
pub mod Checked
