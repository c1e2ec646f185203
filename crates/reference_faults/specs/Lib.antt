pub mod Doubles
pub mod Limit
pub mod References
pub mod Attributes
pub mod Resolution
pub mod Imports
pub mod Faults
pub mod inside
