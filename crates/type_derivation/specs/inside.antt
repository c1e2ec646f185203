pub mod Along
pub mod Kinds
pub mod Filling
