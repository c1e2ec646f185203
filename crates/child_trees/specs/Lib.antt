pub mod Bits
pub mod Cells
pub mod Kept
pub mod Laws
pub mod Lists
pub mod Sums
pub mod Tops
