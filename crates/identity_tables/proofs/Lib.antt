pub mod Census
pub mod Tables
pub mod Tally
pub mod Among
pub mod IdTables
pub mod Codes
pub mod Dropping
