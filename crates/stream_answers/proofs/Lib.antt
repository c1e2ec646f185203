pub mod Readers
pub mod Moved
pub mod Standing
pub mod Compiling
pub mod Opening
pub mod Sectioned
