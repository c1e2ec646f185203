pub mod Tables
pub mod Steps
pub mod Below
pub mod Met
