pub mod Records
pub mod Rules
pub mod Check
pub mod Answers
pub mod Lists
pub mod Walked
