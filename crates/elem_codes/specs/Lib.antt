pub mod Facts
pub mod Used
pub mod Codes
pub mod Records
