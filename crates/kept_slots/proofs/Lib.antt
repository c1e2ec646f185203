pub mod Reading
pub mod Sums
pub mod ElementSums
