pub mod Shape
pub mod States
pub mod Ambiguity
pub mod Letters
pub mod Modelled
pub mod Terms
pub mod Ways
pub mod Built
