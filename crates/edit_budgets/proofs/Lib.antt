pub mod Room
mod Costs
