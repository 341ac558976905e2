-- What a text means, and what `parse_automaton` answers.
pub mod Pattern
pub mod Parsed
pub mod Moves
pub mod Misspelt
pub mod inner
