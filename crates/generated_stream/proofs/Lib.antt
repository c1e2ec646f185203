pub mod Stepping
pub mod Texts
pub mod Counts
pub mod Buffers
pub mod Counting
