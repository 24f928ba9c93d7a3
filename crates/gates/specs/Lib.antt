pub mod Gates
pub mod Troubles
