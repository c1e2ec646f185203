pub mod Below
pub mod Moved
