pub mod Returned
pub mod Following
pub mod from_kept_changes
pub mod from_kept_children
pub mod from_kept_forgetting
pub mod from_kept_records
mod Governed
mod Paths
mod Moves
mod Marks
mod Nodes
mod Shapes
mod Rooms
mod Attributed
pub mod Budget
pub mod InverseBudget
