-- The laws of answers.
pub mod Behind
