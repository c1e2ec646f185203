pub mod Parents
pub mod Distinct
pub mod Depths
pub mod Symbols
mod Listed
pub mod from_kept_judging
pub mod from_kept_records
pub mod from_kept_state
