-- What only inner contracts cite.
pub mod Finding
pub mod Gathering
pub mod Ordered
pub mod Sorting
