-- The laws of names in order.
pub mod Less
pub mod Numbers
pub mod Searching
pub mod Inserting
pub mod Moving
pub mod Finding
pub mod Adding
