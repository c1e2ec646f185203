pub mod Uses
pub mod Lists
