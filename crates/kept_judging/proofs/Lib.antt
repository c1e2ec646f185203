pub mod Heads
pub mod Reading
pub mod Flags
pub mod Keeping
pub mod Anew
pub mod from_kept_records
pub mod from_kept_state
