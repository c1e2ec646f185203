pub mod Asked
pub mod Numbered
