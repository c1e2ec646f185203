pub mod Classes
pub mod Values
pub mod inside
pub mod Groups
