pub mod Derived
pub mod LocalType
pub mod Governing
pub mod View
pub mod Heads
pub mod Again
