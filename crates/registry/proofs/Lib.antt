pub mod Order
pub mod Lookup
pub mod Kept
pub mod Indexed
pub mod Starts
