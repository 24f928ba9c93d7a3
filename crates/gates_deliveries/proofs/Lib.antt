pub mod Deliveries
pub mod InOrder
pub mod Kept
