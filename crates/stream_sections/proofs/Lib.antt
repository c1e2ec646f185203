pub mod Building
pub mod Growing
pub mod Reading
pub mod Spelling
pub mod Refusing
pub mod Unreading
