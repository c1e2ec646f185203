pub mod Seen
pub mod Targets
pub mod Satisfied
pub mod Counting
