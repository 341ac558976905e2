-- What only inner contracts cite.
pub mod Order
pub mod Search
pub mod Names
