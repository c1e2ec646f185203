pub mod Members
pub mod Scopes
pub mod Documents
pub mod Numbers
pub mod inside
