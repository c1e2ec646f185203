pub mod Scopes
pub mod Staying
pub mod Growing
mod Finding
mod Upwards
pub mod Bare
pub mod Links
pub mod Sums
mod Tallies
mod Keeping
mod Parents
pub mod Linked
