pub mod Index
pub mod Keeping
pub mod Names
pub mod Numbered
pub mod Rows
