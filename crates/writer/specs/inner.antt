-- What only inner contracts cite.
pub mod Tables
pub mod Parts
