pub mod Codes
pub mod inside
pub mod Entries
