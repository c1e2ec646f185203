pub mod Lines
pub mod Sections
pub mod Spelled
pub mod inside
