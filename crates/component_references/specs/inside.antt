pub mod Orders
pub mod Visits
pub mod Marks
pub mod Parts
