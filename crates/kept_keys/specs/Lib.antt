pub mod Keys
pub mod from_kept_targets
