-- Laws of the questions, over plain lists and numbers.
pub mod Lowest
pub mod Rows
pub mod Walking
