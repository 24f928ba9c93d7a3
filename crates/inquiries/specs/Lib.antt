pub mod Sheets
pub mod Changes
pub mod Spans
pub mod Days
