pub mod Attribution
pub mod Fitting
pub mod Assessment
pub mod Local
pub mod Plain
pub mod Bearings
pub mod Joined
pub mod inside
