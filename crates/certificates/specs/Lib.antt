pub mod Rights
pub mod Access
pub mod Certificates
pub mod Meaning
pub mod Laws
