pub mod Lists
pub mod Inside
pub mod Around
