pub mod Tables
pub mod References
pub mod Faults
pub mod Counted
pub mod Records
pub mod Views
