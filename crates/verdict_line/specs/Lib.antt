-- The line that the program `verdict` prints: the two texts, their automata, and the bytes.
pub mod Texts
pub mod Line
pub mod inner
pub mod Says
