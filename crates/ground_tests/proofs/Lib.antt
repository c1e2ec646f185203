pub mod Holding
pub mod ListHolding
