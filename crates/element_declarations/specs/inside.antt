pub mod Firsts
pub mod Keys
pub mod Numbers
pub mod Steps
pub mod Nearest
