-- Ranges of symbols: what they share, the spans between their cuts, and the symbols that none holds.
pub mod Span
pub mod Cuts
pub mod Missing
pub mod inner
