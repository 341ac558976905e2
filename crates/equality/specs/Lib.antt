-- Exact equality: the smallest equivalence, and the verdict.
pub mod Forced
pub mod Verdict
pub mod Equality
pub mod inner
