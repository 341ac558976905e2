-- The texts of patterns as rules.
pub mod Syntax
pub mod Spelled
pub mod Examples
