pub mod Stocks
pub mod Held
pub mod Costs
