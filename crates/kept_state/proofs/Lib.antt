pub mod Beside
pub mod from_kept_records
