-- What only inner contracts cite.
pub mod Marks
pub mod Passes
