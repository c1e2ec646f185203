pub mod Causes
pub mod Writing
pub mod Bounds
pub mod BoundLaws
pub mod Memory
pub mod Escaping
pub mod Parts
pub mod Written
