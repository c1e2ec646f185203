pub mod Keeping
pub mod Fits
mod Counts
mod Children
mod Again
pub mod Moving
pub mod Identity
mod Opening
