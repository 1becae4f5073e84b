pub mod Bytes
pub mod Decimal
pub mod Bits
pub mod Scan
pub mod Before
