pub mod Program
pub mod Input
pub mod Rows
