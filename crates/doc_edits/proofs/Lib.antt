pub mod Placing
pub mod Outcomes
pub mod Naming
pub mod Inserting
pub mod Preparing
pub mod Making
pub mod Own
pub mod Inverse
