-- The answer for the bytes of a sheet and a series.
pub mod Series
