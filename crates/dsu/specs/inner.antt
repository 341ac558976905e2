-- What only inner contracts cite.
pub mod Steps
pub mod Lent
pub mod Generated
