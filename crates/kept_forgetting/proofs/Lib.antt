pub mod Placed
pub mod Walks
pub mod Depths
pub mod Keeping
pub mod Forgetting
