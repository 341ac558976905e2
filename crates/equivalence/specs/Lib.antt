-- `is_equivalent`: triggers, and its definition.
pub mod Triggers
pub mod Equivalent
pub mod inner
