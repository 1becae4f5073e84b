pub mod Form
pub mod Types
pub mod Meaning
pub mod Words
pub mod Walks
pub mod Numbered
