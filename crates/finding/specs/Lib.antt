pub mod Finding
pub mod Laws
pub mod Cases
pub mod Wanted
pub mod Asking
pub mod Worth
pub mod Growing
