pub mod Digits
pub mod Lines
pub mod Fitting
pub mod Anywhere
