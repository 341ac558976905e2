-- Ring series with an outer mark.
pub mod Series
