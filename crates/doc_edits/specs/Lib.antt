pub mod Changes
pub mod Tested
