-- What only inner contracts cite.
pub mod Records
pub mod Chunks
