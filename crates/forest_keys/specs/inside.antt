pub mod Keyrefs
pub mod Places
pub mod Found
pub mod Records
pub mod Parsed
pub mod Coded
pub mod Marking
