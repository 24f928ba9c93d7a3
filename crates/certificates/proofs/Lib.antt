pub mod Bits
pub mod Meaning
pub mod Ranges
