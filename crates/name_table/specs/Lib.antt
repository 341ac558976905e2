-- Names in order.
pub mod inner
