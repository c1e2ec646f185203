pub mod Fields
pub mod Faults
pub mod Commands
pub mod Examples
