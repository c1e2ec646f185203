pub mod Tree
pub mod Side
pub mod Balance
pub mod Arena
pub mod Change
pub mod Cut
pub mod Slots
