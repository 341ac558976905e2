-- The laws of decimal digits.
pub mod Decimal
pub mod Put
pub mod Examples
