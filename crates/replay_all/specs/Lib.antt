-- What the contracts of the test program cite: how a case has the answer of a call, kind by kind.
pub mod Parts
pub mod Decided
pub mod Rows
pub mod Outcomes
pub mod Spans
pub mod Spelling
pub mod Verdicts
pub mod Agreement
