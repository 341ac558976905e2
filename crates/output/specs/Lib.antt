-- The outputs of operations.
pub mod Output
pub mod Made
pub mod Left
pub mod inner
