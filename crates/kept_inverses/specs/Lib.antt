pub mod Spots
pub mod Steps
pub mod from_kept_changes
pub mod from_kept_children
pub mod from_kept_records
pub mod from_kept_state
pub mod from_kept_forgetting
