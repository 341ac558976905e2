-- The definitions of decimal digits.
pub mod Decimal
