pub mod Arrangement
pub mod Written
pub mod Permitted
pub mod Rows
pub mod Sixes
pub mod NearMisses
