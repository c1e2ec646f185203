pub mod Prefixes
pub mod Finding
pub mod Walking
pub mod Fitting
pub mod Alike
pub mod Roots
pub mod Bearers
pub mod Marks
