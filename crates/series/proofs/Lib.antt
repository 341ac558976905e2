-- The laws of the test of a series.
mod Series
