pub mod Maps
pub mod Totals
pub mod Occurrence
pub mod Terms
pub mod Groups
pub mod Restricts
pub mod Codes
pub mod Tables
