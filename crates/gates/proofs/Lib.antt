pub mod FirstRead
pub mod Keeping
