pub mod Indexed
pub mod Versions
pub mod Originals
pub mod inside
