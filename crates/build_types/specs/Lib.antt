pub mod Numbers
pub mod Types
pub mod SimpleTypes
pub mod Values
pub mod Declarations
pub mod Members
pub mod Groups
pub mod inside
