-- What only inner contracts cite.
pub mod Notes
pub mod Memory
pub mod Attempts
pub mod Sheets
