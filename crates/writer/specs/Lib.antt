-- Writing patterns as texts.
pub mod Text
pub mod ReadBack
pub mod Refusals
pub mod Wrote
pub mod inner
