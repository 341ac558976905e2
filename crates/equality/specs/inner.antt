-- What only inner contracts cite.
pub mod Code
pub mod Walking
