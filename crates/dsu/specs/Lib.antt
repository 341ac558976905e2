-- What the join sets give, the number of classes, the laws for those who build on the sets, and when a call is refused.
pub mod Sets
pub mod Classes
pub mod Laws
pub mod Refusals
pub mod inner
