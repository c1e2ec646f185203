pub mod Identity
pub mod IsFound
