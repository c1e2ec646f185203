pub mod Maps
pub mod Lawful
pub mod Masks
pub mod LawfulMasks
