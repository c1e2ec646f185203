pub mod Parts
pub mod Changes
pub mod Leads
pub mod inside
pub mod NodeRows
pub mod Readers
pub mod Following
pub mod Counted
