-- The laws of search: how the table grows, what a finished table has, and when there is none.
pub mod Tables
pub mod Queue
pub mod Reached
