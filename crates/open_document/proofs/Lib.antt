pub mod Accepted
pub mod Edits
pub mod Logging
mod Noting
pub mod Making
pub mod Stepping
pub mod Swapped
pub mod Worked
mod Entries
mod Placed
mod Touching
