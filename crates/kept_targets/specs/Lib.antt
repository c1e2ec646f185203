pub mod Seen
pub mod Whole
pub mod Kept
pub mod Moved
pub mod Touched
pub mod Counting
pub mod Turned
