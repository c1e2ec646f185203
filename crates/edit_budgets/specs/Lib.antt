pub mod Lists
pub mod Budget
pub mod Examples
pub mod UndoBudget
