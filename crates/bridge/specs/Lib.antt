pub mod FieldList
pub mod Refused
pub mod Unsound
pub mod Neighbours
pub mod Arranged
