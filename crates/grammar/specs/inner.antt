-- What only inner contracts cite.
pub mod Pieces
pub mod Places
pub mod Parts
