pub mod Sooner
pub mod Kept
pub mod Spanning
pub mod Stretches
pub mod DaysKept
