-- Laws of the lines, of the input and of an answer's text, over plain lists.
pub mod Lines
pub mod Inputs
pub mod Answered
