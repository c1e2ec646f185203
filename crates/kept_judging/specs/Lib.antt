pub mod Judged
pub mod from_kept_records
pub mod from_kept_state
