pub mod Models
pub mod Ranges
pub mod Steps
pub mod Accepted
pub mod Made
