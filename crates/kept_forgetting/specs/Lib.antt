pub mod Below
pub mod Forgotten
