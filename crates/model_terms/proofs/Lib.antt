pub mod Along
pub mod Stuck
pub mod Words
pub mod Given
pub mod Unique
pub mod Runs
pub mod Reading
pub mod Naming
