pub mod FirstRow
pub mod Segments
pub mod Stretches
pub mod Alone
pub mod FilledIndex
