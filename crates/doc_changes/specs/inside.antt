pub mod Growing
pub mod Spreading
