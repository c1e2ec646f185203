pub mod Runs
pub mod Filled
