pub mod Codes
pub mod Builtins
pub mod Least
