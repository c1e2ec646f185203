pub mod Symbols
pub mod Named
pub mod Bases
pub mod Types
pub mod Found
pub mod ContentTypes
pub mod inside
