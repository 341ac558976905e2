-- The laws of written memory.
pub mod Written
pub mod Left
