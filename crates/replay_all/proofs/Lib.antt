-- The laws that the test program cites.
mod Sheets
mod Decisions
mod Bytes
mod Outcomes
mod Calls
mod Spelling
mod Judging
mod Spans
mod Rows
mod Cases
