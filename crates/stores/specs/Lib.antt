-- What a function that writes into lent memory does.
pub mod Written
