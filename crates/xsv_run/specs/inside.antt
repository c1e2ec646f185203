pub mod Progress
pub mod Trying
