pub mod Lawful
pub mod Cases
pub mod Traced
pub mod Answering
pub mod Worthy
pub mod Later
pub mod Opening
pub mod Deciding
