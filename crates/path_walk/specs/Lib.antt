pub mod Sight
pub mod Outcomes
pub mod inside
