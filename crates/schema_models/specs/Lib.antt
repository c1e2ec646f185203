pub mod Consistency
pub mod Found
pub mod Checks
pub mod Named
pub mod inside
pub mod SetModels
pub mod AllLimits
