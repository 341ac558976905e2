-- What only inner contracts cite.
pub mod BitSet
pub mod Rows
pub mod Words
pub mod Members
pub mod Places
