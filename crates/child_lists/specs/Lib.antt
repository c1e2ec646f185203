pub mod Places
pub mod Family
pub mod from_kept_forgetting
pub mod from_kept_judging
pub mod from_kept_records
pub mod from_kept_state
