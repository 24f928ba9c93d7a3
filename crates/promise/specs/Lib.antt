pub mod States
pub mod Answers
pub mod Requests
pub mod Happened
pub mod Promise
