-- Document 01's number of what the check of a label list answers.
pub use Rattle.refusal.specs.Checked.{checked_number}
