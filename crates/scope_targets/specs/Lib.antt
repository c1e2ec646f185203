pub mod Targetings
pub mod Kin
pub mod Found
pub mod Counted
pub mod Linked
pub mod Kept
