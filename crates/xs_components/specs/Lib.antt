pub mod Sets
pub mod Table
pub mod Lends
pub mod Tables
pub mod Changes
pub mod Terms
pub mod Heads
