pub mod Counts
pub mod Climbing
pub mod Whole
pub mod from_kept_judging
pub mod from_kept_records
pub mod from_kept_state
