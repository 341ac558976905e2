-- What only inner contracts cite.
pub mod Rows
pub mod Walking
