-- What only inner contracts cite.
pub mod Places
pub mod Arrows
pub mod Accepts
pub mod Memory
pub mod Names
pub mod Records
