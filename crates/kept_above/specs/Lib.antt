pub mod Climbing
pub mod from_kept_judging
pub mod from_kept_records
pub mod from_kept_state
