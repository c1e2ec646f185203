pub mod Redefinitions
pub mod inside
