pub mod Outcomes
pub mod Told
pub mod Going
pub mod Tells
pub mod Same
