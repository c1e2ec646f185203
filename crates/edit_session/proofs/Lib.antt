mod Results
mod Following
mod Standing
mod Known
mod Fresh
mod Making
mod Applying
mod Turned
mod Followed
pub mod Changing
mod Placed
