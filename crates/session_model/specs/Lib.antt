pub mod State
pub mod StateCode
pub mod Asking
pub mod Reports
pub mod Applying
pub mod Spending
pub mod inside
