-- The laws of UTF-8: for the code, for callers, and that decoding is RFC 3629's.
pub mod Lead
pub mod Sequence
pub mod Front
pub mod Point
pub mod Decode
pub mod Wellformed
pub mod Encode
pub mod Exact
pub mod Examples
