-- The laws of the join sets, and what the functions' proofs cite.
pub mod Ways
pub mod Finding
pub mod Joining
pub mod Fresh
pub mod Count
pub mod WayLeads
pub mod Keep
pub mod Merge
pub mod Classes
pub mod Laws
pub mod Generated
pub mod Lent
pub mod Refusals
pub mod Compressing
pub mod Theorems
