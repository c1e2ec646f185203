pub mod Arithmetic
pub mod Numerals
pub mod Reading
pub mod Spelling
