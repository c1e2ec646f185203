pub mod Check
pub mod List
pub mod Order
pub mod Patterns
pub mod inside
