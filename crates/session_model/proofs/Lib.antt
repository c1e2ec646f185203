mod Empty
mod Found
mod Near
mod NamedEntries
pub mod Telling
pub mod Walking
pub mod Lines
