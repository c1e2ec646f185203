pub mod Edits
pub mod Terms
pub mod Listed
pub mod Written
pub mod from_kept_forgetting
pub mod from_kept_judging
pub mod from_kept_records
pub mod from_kept_state
