pub mod EffectiveSet
pub mod Order
pub mod Composition
pub mod Sourced
pub mod Documents
pub mod inside
