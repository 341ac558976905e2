-- Laws of the sheets that the program makes.
pub mod Sheets
