pub mod Apart
pub mod LeastLaws
pub mod Firsts
