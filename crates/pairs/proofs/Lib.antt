-- The laws of queues of pairs.
pub mod Laws
