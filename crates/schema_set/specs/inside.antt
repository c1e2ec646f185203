pub mod Following
pub mod Marks
pub mod Entries
pub mod Faults
pub mod Reads
