pub mod Below
pub mod Broken
pub mod Chains
pub mod Numbers
pub mod Selves
