pub mod Numbers
pub mod Faults
pub mod Format
pub mod Reading
pub mod Exact
pub mod Settled
