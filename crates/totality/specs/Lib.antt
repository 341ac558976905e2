-- Totality and complement: the operations on automata, and their answers.
pub mod Totality
pub mod Answers
pub mod inner
