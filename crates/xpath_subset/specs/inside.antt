pub mod Trims
pub mod Gives
pub mod Lasts
pub mod Steps
pub mod Reading
