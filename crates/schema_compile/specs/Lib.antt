pub mod Fit
pub mod Outcomes
pub mod inside
