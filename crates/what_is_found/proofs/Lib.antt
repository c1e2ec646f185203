pub mod Counts
pub mod Shapes
pub mod Joining
pub mod OneReading
pub mod Numbers
pub mod Deciding
pub mod Terms
pub mod Governings
