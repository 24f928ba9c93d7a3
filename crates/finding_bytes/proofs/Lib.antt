pub mod Sizes
pub mod Written
