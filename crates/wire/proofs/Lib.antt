pub mod BigEndian
pub mod Sixes
pub mod Parts
pub mod Numerals
pub mod Frames
pub mod Formed
pub mod Exact
pub mod Longest
